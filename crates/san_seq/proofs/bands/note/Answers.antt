use Rattle.std.proofs.Common.{◌∙◌, arith, ap, subst, sym, map, List}
use Rattle.std.specs.Prelude.{slice_get}
use Rattle.std.proofs.lemmas.List.{length-map}
use Rattle.san_net.specs.Laid.{place_of}
use Rattle.san_net.specs.Instants.{Named}
use Rattle.san_net.specs.declared.atomic.Atomic.{Atomic}
use Rattle.san_net.specs.declared.part.Slot.{Slot}
use Rattle.san_net.proofs.CellLemmas.{slot_at}
use Rattle.san_seq.specs.inner.Wakes.{EachWeight, Stands, bands_at}
use Rattle.san_seq.proofs.BandLemmas.{noted_more}
use Rattle.san_seq.proofs.bands.note.Goals as goal

pub note_place-requires : goal.note_place-requires
note_place-requires c =
    let at = slot_at c.as_slice-slots.result.now c.cells.k c.place-place.result.0 c.cells-test.true c.place-place.ensures in
    omega (arith, c.requires.within c.cells.k c.place-place.result.0 (ap (λ (ss : List Slot). slice_get (map place_of ss) c.cells.k) (sym c.as_slice-slots.ensures) ∙ at), c.cells.invariant.sized)

pub cells-preserved : goal.cells-preserved
cells-preserved c =
    let at = slot_at c.as_slice-slots.result.now c.cells.k c.place-place.result.0 c.cells-test.true c.place-place.ensures in
    let acts = c.as_slice-acts.ensures ∙ ap (λ (a : Atomic). a.acts) c.get.ensures in
    let mid = c.cells.table.items in
    let new = c.note_place.new.table.items in
    record {
      sized = c.note_place.ensures.sized ∙ c.cells.invariant.sized;
      noted = noted_more c.args.concern c.args.part.now.atomic.acts c.args.part.now.leaf _ c.cells.k c.place-place.result.0 _ (map (λ v. v.items) mid) (map (λ v. v.items) new)
          (ap (λ (ss : List Slot). slice_get (map place_of ss) c.cells.k) (sym c.as_slice-slots.ensures) ∙ at) c.cells.invariant.noted
          (length-map new (λ v. v.items) ∙ c.note_place.ensures.sized ∙ sym (length-map mid (λ v. v.items))) c.in_ok-note_place.ensures.gains
          (subst (λ (xs : List Named). EachWeight c.args.concern xs c.cells.k (λ w. Stands (bands_at (map (λ v. v.items) new) c.place-place.result.0) w c.args.part.now.leaf.0)) acts c.in_ok-note_place.ensures.there);
    }
