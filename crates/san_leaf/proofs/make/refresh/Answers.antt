use Rattle.std.proofs.Common.{◌≡◌, ◌∙◌, ap, map, length, List, ℕ}
use Rattle.std.proofs.lemmas.List.{length-map}
use Rattle.san_law.specs.Piece.{LeafState}
use Rattle.san_net.specs.Leaf.{slot_in}
use Rattle.san_net.specs.declared.part.Part.{Part}
use Rattle.san_net.specs.declared.part.Slot.{Slot}
use Rattle.san_leaf.specs.Outcomes.{outcome_in}
use Rattle.san_leaf.specs.States.{pair_in}
use Rattle.san_leaf.specs.inner.Gathers.{joined, shared_of}
use Rattle.san_leaf.proofs.GatherLemmas.{firsts_are, joined_long}
use Rattle.san_leaf.proofs.LogLemmas.{read_is_log}
use Rattle.san_leaf.proofs.RenewalLemmas.{refresh_sound}
use Rattle.san_leaf.proofs.make.refresh.Goals as goal

pub refreshed-requires-clause-each : goal.refreshed-requires-clause-each
refreshed-requires-clause-each g c =
    let claim = c.args.claim.now in
    let slots : c.as_slice-slots.result.now ≡ claim.part.slots = c.as_slice-slots.ensures ∙ ap (λ (p : Part). p.slots) c.get.ensures in
    ap length c.in_ok-values.ensures ∙ joined_long (map slot_in c.as_slice-slots.result.now) c.deref.result.now (map pair_in c.deref-2.result.now) ∙ length-map c.as_slice-slots.result.now slot_in ∙ ap (λ (ss : List Slot). length ss) slots ∙ c.requires.fits.each

pub assemble-requires-clause-sound : goal.assemble-requires-clause-sound
assemble-requires-clause-sound g c =
    let claim = c.args.claim.now in
    let slots : c.as_slice-slots.result.now ≡ claim.part.slots = c.as_slice-slots.ensures ∙ ap (λ (p : Part). p.slots) c.get.ensures in
    let own : c.deref.result.now ≡ claim.base.values = c.deref.ensures.value ∙ ap (λ (s : LeafState). s.values) (c.base.view_is ∙ c.get-base.ensures) in
    refresh_sound claim.part claim.seed claim.time.0 claim.base claim.kind (map pair_in c.in_ok-log.log.items) c.in_ok-values.values.items (outcome_in claim.part.first.0 c.in_ok-outcome.outcome) (g.D.DrawSource.seed c.args.draws.now) c.requires.kind
    (firsts_are c.in_ok-log.log.items ∙ c.in_ok-log.ensures.places ∙ ap (λ (ss : List Slot). shared_of (map slot_in ss)) slots)
    (c.in_ok-values.ensures ∙ ap (λ (ss : List Slot). joined (map slot_in ss) c.deref.result.now (map pair_in c.deref-2.result.now)) slots ∙ ap (λ (vs : List ℕ). joined (map slot_in claim.part.slots) vs (map pair_in c.deref-2.result.now)) own
    ∙ ap (λ xs. joined (map slot_in claim.part.slots) claim.base.values (map pair_in xs)) c.deref-2.ensures.value)
    c.requires.seed c.in_ok-outcome.ensures.same

pub assemble-requires-clause-log : goal.assemble-requires-clause-log
assemble-requires-clause-log g c =
    let claim = c.args.claim.now in
    let slots : c.as_slice-slots.result.now ≡ claim.part.slots = c.as_slice-slots.ensures ∙ ap (λ (p : Part). p.slots) c.get.ensures in
    read_is_log claim.part claim.base.values (map pair_in c.in_ok-log.log.items) c.requires.fits.base.small c.in_ok-log.ensures.small
    (firsts_are c.in_ok-log.log.items ∙ c.in_ok-log.ensures.places ∙ ap (λ (ss : List Slot). shared_of (map slot_in ss)) slots)
