use Rattle.std.proofs.Common.{arith, ◌∙◌, ◌+◌, ◌&&◌, ◌||◌, ◌≡◌, ap, sym, refl, eqb-true, drop, length, map, nat_eq, Bool, List, slice_index_or}
use Rattle.std.specs.Prelude.{slice_get}
use Rattle.std.proofs.lemmas.List.{length-map}
use Rattle.san_net.specs.Laid.{place_of, places_of}
use Rattle.san_net.specs.declared.atomic.Atomic.{Atomic}
use Rattle.san_net.specs.declared.atomic.RateTerm.{RateTerm}
use Rattle.san_net.specs.declared.part.Slot.{Slot}
use Rattle.san_net.specs.declared.part.Slot.TheVariants.{Private}
use Rattle.san_net.proofs.CellLemmas.{slot_at}
use Rattle.san_plain.specs.inner.Rated.{named_from, rate_cells}
use Rattle.san_plain.proofs.RatedLemmas.{named_past, named_step, none_hangs}
use Rattle.san_plain.proofs.rated.hangs_on.Goals as goal

pub returns-then-is_empty : goal.returns-then-is_empty
returns-then-is_empty c =
    let terms = c.as_slice-terms.ensures ∙ ap (λ (a : Atomic). a.rates) c.get.ensures in
    let none = eqb-true (length c.as_slice-terms.result.now) 0 (sym c.is_empty.ensures ∙ c.if-is_empty.true) in
    sym (none_hangs c.args.part.now c.args.place.0 (ap length (sym terms) ∙ none))

pub returns-then-names_at : goal.returns-then-names_at
returns-then-names_at c =
    let p = c.args.part.now in
    let q = c.args.place.0 in
    let k = c.cells.k in
    let terms = c.as_slice-terms.ensures ∙ ap (λ (a : Atomic). a.rates) c.get.ensures in
    let slots = c.as_slice-slots.result.now in
    let place = place_of (slice_index_or slots k (Private (record { 0 = 0 }))) in
    let there = ap (λ (ss : List Slot). slice_get (map place_of ss) k) (sym c.as_slice-slots.ensures) ∙ slot_at slots k place c.cells-test.true refl in
    let named = c.names_at.ensures ∙ ap (λ (ts : List RateTerm). nat_eq place q && rate_cells ts k) terms in
    sym (c.cells.invariant ∙ named_step (rate_cells p.atomic.rates) q k place (places_of p) there
    ∙ ap (λ (b : Bool). b || named_from (rate_cells p.atomic.rates) q (k + 1) (drop (k + 1) (places_of p))) (sym named ∙ c.if-names_at.true))

pub cells-preserved : goal.cells-preserved
cells-preserved c =
    let p = c.args.part.now in
    let q = c.args.place.0 in
    let k = c.cells.k in
    let terms = c.as_slice-terms.ensures ∙ ap (λ (a : Atomic). a.rates) c.get.ensures in
    let slots = c.as_slice-slots.result.now in
    let place = place_of (slice_index_or slots k (Private (record { 0 = 0 }))) in
    let there = ap (λ (ss : List Slot). slice_get (map place_of ss) k) (sym c.as_slice-slots.ensures) ∙ slot_at slots k place c.cells-test.true refl in
    let named = c.names_at.ensures ∙ ap (λ (ts : List RateTerm). nat_eq place q && rate_cells ts k) terms in
    c.cells.invariant ∙ named_step (rate_cells p.atomic.rates) q k place (places_of p) there
    ∙ ap (λ (b : Bool). b || named_from (rate_cells p.atomic.rates) q (k + 1) (drop (k + 1) (places_of p))) (sym named ∙ c.if-names_at.false)

pub returns : goal.returns
returns c =
    let p = c.args.part.now in
    let long : length (places_of p) ≡ length c.as_slice-slots.result.now = length-map p.slots place_of ∙ ap length (sym c.as_slice-slots.ensures) in
    sym (c.cells.invariant ∙ named_past (rate_cells p.atomic.rates) c.args.place.0 c.cells.k (places_of p) (omega (arith, long, c.cells-test.false)))
