use Rattle.std.proofs.Common.{arith, ◌∙◌, sym, ap, Some}
use Rattle.san_draw.specs.Key.{draw_of}
use Rattle.san_net.proofs.PartLemmas.{lies_over}
use Rattle.san_net.proofs.FlatLemmas.{acts_within}
use Rattle.san_seq.proofs.RowLemmas.{part_renewed}
use Rattle.san_seq.proofs.renewal.renew_at.Goals as goal

pub renew_leaf-requires-clause-accepted : goal.renew_leaf-requires-clause-accepted
renew_leaf-requires-clause-accepted c = c.is_network.ensures.network.accepted c.args.leaf.0 c.get.result.now (c.part.ensures ∙ ap Some (sym c.get.ensures))

pub renew_leaf-requires-clause-present : goal.renew_leaf-requires-clause-present
renew_leaf-requires-clause-present c = (lies_over c.args.flat.now c.args.leaf.0 c.get.result.now (c.part.ensures ∙ ap Some (sym c.get.ensures)) c.args.markings.now.present.now c.requires.present c.is_network.ensures.laid).within

pub renew_leaf-requires-clause-stable : goal.renew_leaf-requires-clause-stable
renew_leaf-requires-clause-stable c = (lies_over c.args.flat.now c.args.leaf.0 c.get.result.now (c.part.ensures ∙ ap Some (sym c.get.ensures)) c.args.markings.now.stable.now c.requires.stable c.is_network.ensures.laid).within

pub renew_leaf-requires-clause-streams : goal.renew_leaf-requires-clause-streams
renew_leaf-requires-clause-streams c =
    omega (arith, c.requires.streams, acts_within c.args.flat.now c.args.leaf.0 c.get.result.now c.is_network.ensures.network (c.part.ensures ∙ ap Some (sym c.get.ensures)))

pub renew_leaf-requires-clause-small : goal.renew_leaf-requires-clause-small
renew_leaf-requires-clause-small c =
    omega (arith, c.is_network.ensures.network.small.acts, acts_within c.args.flat.now c.args.leaf.0 c.get.result.now c.is_network.ensures.network (c.part.ensures ∙ ap Some (sym c.get.ensures)))

pub returns-clause-row : goal.returns-clause-row
returns-clause-row c = λ limits s clock seen now.
    c.renew_leaf.ensures.row
    ∙ part_renewed c.args.flat.now (draw_of c.args.streams.now.seed) limits s c.args.leaf.0 c.get.result.now c.args.time c.args.markings.now.stable.now c.args.markings.now.present.now c.args.row.now (c.part.ensures ∙ ap Some (sym c.get.ensures)) clock seen now
