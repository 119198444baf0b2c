use Rattle.std.proofs.Common.{arith, ◌∙◌, ap, refl, sym, subst, map, take, ◌||◌, Bool, List, ℕ, Some, slice_index_or}
use Rattle.std.specs.Prelude.{slice_get}
use Rattle.std.specs.List.{list_any}
use Rattle.std.proofs.lemmas.List.Folds.{list_any_more}
use Rattle.san_net.specs.Laid.{place_of, places_of}
use Rattle.san_net.specs.declared.part.Part.{Part}
use Rattle.san_net.specs.declared.part.Slot.{Slot}
use Rattle.san_net.specs.declared.part.Slot.TheVariants.{Private}
use Rattle.san_plain.proofs.RateLemmas.{places_more, same_of}
use Rattle.san_plain.specs.inner.Rates.{differs_at}
use Rattle.san_plain.proofs.rates.rate_others.Goals as goal
use Rattle.san_net.specs.Cells.{LiesOver}
use Rattle.san_net.proofs.PartLemmas.{lies_over}
use Rattle.san_net.proofs.CellLemmas.{at_slot, cell_below, inside, slot_at}

pub rate_slot-changed-requires-clause-place : goal.rate_slot-changed-requires-clause-place
rate_slot-changed-requires-clause-place c =
    let slots = c.as_slice-slots.result.now in
    let over = subst (λ (ss : List Slot). LiesOver (map place_of ss) c.args.marking.now) (sym c.as_slice-slots.ensures)
    (lies_over c.args.flat.now c.args.leaf.0 c.get.result.now (c.part.ensures ∙ ap (λ (p : Part). Some p) (sym c.get.ensures)) c.args.marking.now c.requires.marking c.is_network.ensures.laid) in
    omega (arith, cell_below slots c.cells.k (place_of (slice_index_or slots c.cells.k (Private (record { 0 = 0 })))) c.cells-test.true refl c.args.marking.now over.within, c.requires.marking)

pub rate_slot-changed-requires-clause-own : goal.rate_slot-changed-requires-clause-own
rate_slot-changed-requires-clause-own c = λ p is.
    let slots = c.as_slice-slots.result.now in
    let part = same_of (slice_get c.args.flat.now.parts c.args.leaf.0) c.get.result.now p (c.part.ensures ∙ ap (λ (q : Part). Some q) (sym c.get.ensures)) is in
    let same = ap (map place_of) c.as_slice-slots.ensures ∙ ap places_of part in
    (c.cells.k, ap (λ (ps : List ℕ). slice_get ps c.cells.k) (sym same) ∙ slot_at slots c.cells.k (place_of (slice_index_or slots c.cells.k (Private (record { 0 = 0 })))) c.cells-test.true refl)

pub cells-preserved : goal.cells-preserved
cells-preserved c =
    let slots = c.as_slice-slots.result.now in
    let place = place_of (slice_index_or slots c.cells.k (Private (record { 0 = 0 }))) in
    let here = slot_at slots c.cells.k place c.cells-test.true refl in
    record {
      rates = places_more c.args.flat.now c.args.marking.now c.args.leaf.0 c.args.before.now (map place_of slots) c.cells.k place c.args.tally.now c.cells.tally c.rate_slot-changed.new.tally here c.cells.invariant.rates c.rate_slot-changed.ensures.rates;
      changed =
          ap (λ (b : Bool). b || c.rate_slot-changed.result) c.cells.invariant.changed
          ∙ (ap (λ (b : Bool). list_any (differs_at c.args.before.now c.args.marking.now) (take c.cells.k (map place_of slots)) || b) (c.rate_slot-changed.ensures.changed ∙ ap (differs_at c.args.before.now c.args.marking.now) (at_slot slots c.cells.k place c.cells-test.true refl))
          ∙ sym (list_any_more (differs_at c.args.before.now c.args.marking.now) (map place_of slots) c.cells.k 0 (inside slots c.cells.k place c.cells-test.true refl)));
    }
