use Rattle.std.proofs.Common.{◌*◌, ◌≤◌, ap, arith, subst, sym, ◌∙◌, Option, Some}
use Rattle.san_draw.specs.Streams.{Seeded}
use Rattle.san_net.specs.Laid.{acts_of}
use Rattle.san_net.specs.declared.part.Part.{Part}
use Rattle.san_core.specs.Committed.{CommittedValue}
use Rattle.san_core.proofs.MadePieces.{base_is, claim_with, streams_reach}
use Rattle.san_core.proofs.maker.Maker.make.Goals as goal

pub make_piece-piece-requires-clause-fits : goal.make_piece-piece-requires-clause-fits
make_piece-piece-requires-clause-fits c =
    claim_with c.args.flat.now.parts c.args.held.now c.args.seed c.args.taking c.part.result.now c.in_ok-share.field-0 c.in_ok-share-2.field-0 c.requires.fits c.part.ensures c.in_ok-share.ensures
    (c.in_ok-share-2.ensures ∙ base_is c.held.inside.leaves.items c.args.held.now c.args.taking.leaf.0 c.index.result.now (ap (λ (v : CommittedValue). v.core.leaves) c.held.view_is) c.index.ensures (omega (arith, c.requires.leaf, c.requires.leaves)))

pub make_piece-piece-requires-clause-streams : goal.make_piece-piece-requires-clause-streams
make_piece-piece-requires-clause-streams c =
    streams_reach c.args.flat.now c.args.taking.leaf.0 c.in_ok-share.field-0 c.is_network.ensures.network (c.part.ensures ∙ ap (λ (p : Part). (let o : Option Part = Some p in o)) (sym c.in_ok-share.ensures)) c.self.inside.draws.streams
    (subst (λ (x : Seeded). 2 * acts_of c.args.flat.now.parts ≤ x.streams) (sym c.self.view_is) c.requires.streams)
