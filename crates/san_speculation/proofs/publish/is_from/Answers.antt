use Rattle.std.proofs.Common.{ap, arith, subst, sym, ◌≡◌, ◌↔◌, ◌∙◌}
use Rattle.std.specs.Prelude.{IsTrue, slice_get}
use Rattle.san_law.specs.Piece.{LeafState}
use Rattle.san_net.specs.Network.{Network}
use Rattle.san_speculation.proofs.Published.{from_true, part_at_is}
use Rattle.san_speculation.proofs.publish.is_from.Goals as goal

pub returns : goal.returns
returns c = from_true c.args.machine.now c.args.ahead.now c.args.leaf.0 c.args.piece.now c.same_state.result
    (omega (arith, c.if-seed.false, c.seed.ensures, c.seed-2.ensures))
    (sym (c.get.ensures ∙ c.part-2.ensures) ∙ (c.same.ensures.0 c.if-not-same.false ∙ (c.get-part.ensures ∙ part_at_is c.args.machine.now.network c.args.leaf.0 c.part.result.now (ap (λ (n : Network). slice_get n.parts c.args.leaf.0) (sym c.network.ensures) ∙ c.part.ensures))))
    (subst (λ (s : LeafState). IsTrue c.same_state.result ↔ (c.args.piece.now.base ≡ s)) c.chain_end.ensures
    (subst (λ (s : LeafState). IsTrue c.same_state.result ↔ (s ≡ c.chain_end.result.now)) (c.get-2.ensures ∙ c.base.ensures) c.same_state.ensures))
