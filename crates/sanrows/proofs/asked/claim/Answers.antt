use Rattle.std.proofs.Common.{◌∙◌, ap, sym, subst, arith, Some}
use Rattle.san_net.specs.declared.part.Part.{Part}
use Rattle.san_leaf.specs.Fits.{KindFits, StateFits}
use Rattle.san_leaf.specs.Pieces.{opened_state}
use Rattle.sanrows.proofs.asked.claim.Goals as goal

pub returns : goal.returns
returns c =
    let network = c.is_network.ensures.network in
    let leaf = c.in-Some-Some-Some.leaf.0 in
    let part = c.in_ok-part.part in
    let there = c.part.ensures ∙ ap Some (sym c.in_ok-part.ensures) in
    let first = c.in_ok-base.ensures ∙ c.in_ok-first_state.ensures ∙ ap opened_state c.get-2.ensures in
    let slotted = network.slotted leaf part there in
    let base = subst (StateFits part) (sym first) (c.first_states_fit.ensures part (network.accepted leaf part there) slotted.each) in
    let kind = subst (λ (p : Part). KindFits p c.in-Some.kind) c.get.ensures c.in-Some.ensures in
    c.claims_of_a_network_fit.ensures c.args.flat.now leaf _ network there base kind (omega (arith, c.if-time-gt-MAX_HORIZON.false))
