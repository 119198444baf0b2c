use Rattle.std.proofs.Common.{arith, ◌∙◌, ap, sym, map, List, Some}
use Rattle.std.specs.Prelude.{slice_get}
use Rattle.san_net.specs.Laid.{place_of}
use Rattle.san_net.specs.declared.part.Part.{Part}
use Rattle.san_net.specs.declared.part.Slot.{Slot}
use Rattle.san_net.proofs.CellLemmas.{slot_at}
use Rattle.san_seq.proofs.KnownLemmas.{places_within}
use Rattle.san_seq.proofs.TouchLemmas.{all_more, own_stays}
use Rattle.san_seq.proofs.stale.touch_places.Goals as goal

pub touch_place-requires-clause-place : goal.touch_place-requires-clause-place
touch_place-requires-clause-place c =
    let at = slot_at c.as_slice-slots.result.now c.cells.k c.place.result.0 c.cells-test.true c.place.ensures in
    let there = ap (λ (ss : List Slot). slice_get (map place_of ss) c.cells.k) (sym c.as_slice-slots.ensures) ∙ at in
    places_within c.args.flat.now c.args.stable.now c.requires.stable c.is_network.ensures.laid c.args.leaf.0 c.get.result.now c.cells.k c.place.result.0
    (c.part.ensures ∙ ap (λ (p : Part). Some p) (sym c.get.ensures)) there

pub cells-preserved : goal.cells-preserved
cells-preserved c =
    let at = slot_at c.as_slice-slots.result.now c.cells.k c.place.result.0 c.cells-test.true c.place.ensures in
    let sized = c.touch_place.ensures.touched.timers.sized ∙ c.cells.invariant.touched.timers.sized in
    record {
      touched = all_more c.args.wakes.now (map place_of c.as_slice-slots.result.now) c.cells.k c.place.result.0 c.args.stable.now c.args.marking.now c.args.stale.now c.cells.stale c.touch_place.new.stale
          at c.cells.invariant.touched c.touch_place.ensures.touched;
      awake = c.touch_place.ensures.awake ∙ c.cells.invariant.awake;
      own = own_stays c.cells.stale.timers c.touch_place.new.stale.timers c.args.leaf.0 c.touch_place.ensures.touched.timers.kept (omega (arith, c.requires.leaf, c.requires.flags.timers, sized)) c.cells.invariant.own;
    }
