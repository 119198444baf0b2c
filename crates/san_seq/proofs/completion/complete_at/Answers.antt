use Rattle.std.proofs.Common.{arith, ◌∙◌, sym, ap, Some}
use Rattle.san_draw.specs.Key.{draw_of}
use Rattle.san_net.specs.declared.part.Part.{Part}
use Rattle.san_seq.proofs.LeafCompletionLemmas.{done_there}
use Rattle.san_net.proofs.PartLemmas.{lies_over}
use Rattle.san_net.proofs.FlatLemmas.{acts_within}
use Rattle.san_seq.proofs.completion.complete_at.Goals as goal

pub complete_leaf-requires-clause-accepted : goal.complete_leaf-requires-clause-accepted
complete_leaf-requires-clause-accepted c = c.is_network.ensures.network.accepted c.args.leaf.0 c.get.result.now (c.part.ensures ∙ ap (λ (p : Part). Some p) (sym c.get.ensures))

pub complete_leaf-requires-clause-over : goal.complete_leaf-requires-clause-over
complete_leaf-requires-clause-over c = lies_over c.args.flat.now c.args.leaf.0 c.get.result.now (c.part.ensures ∙ ap (λ (p : Part). Some p) (sym c.get.ensures)) c.args.marking.now c.requires.sized c.is_network.ensures.laid

pub complete_leaf-requires-clause-streams : goal.complete_leaf-requires-clause-streams
complete_leaf-requires-clause-streams c =
    omega (arith, c.requires.streams, acts_within c.args.flat.now c.args.leaf.0 c.get.result.now c.is_network.ensures.network (c.part.ensures ∙ ap (λ (p : Part). Some p) (sym c.get.ensures)))

pub complete_leaf-requires-clause-small : goal.complete_leaf-requires-clause-small
complete_leaf-requires-clause-small c =
    omega (arith, c.is_network.ensures.network.small.acts, acts_within c.args.flat.now c.args.leaf.0 c.get.result.now c.is_network.ensures.network (c.part.ensures ∙ ap (λ (p : Part). Some p) (sym c.get.ensures)))

pub returns-clause-done : goal.returns-clause-done
returns-clause-done c = λ limits.
    c.complete_leaf.ensures.done
    ∙ done_there c.args.flat.now (draw_of c.args.streams.now.seed) limits c.args.leaf.0 c.args.act c.get.result.now c.args.marking.now c.args.row.now (c.part.ensures ∙ ap (λ (p : Part). Some p) (sym c.get.ensures))
