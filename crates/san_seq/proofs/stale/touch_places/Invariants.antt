use Rattle.std.proofs.Common.{◌≡◌, Some, true, take, map}
use Rattle.std.specs.Prelude.{slice_get}
use Rattle.san_net.specs.Laid.{place_of}
use Rattle.san_seq.specs.inner.Known.{AreTouched}
use Rattle.san_seq.proofs.stale.touch_places.Given as goal

abbrev pub invariant-cells : goal.invariant-cells
invariant-cells l = record {
  touched : AreTouched l.wakes (take l.k (map place_of l.slots)) l.stable l.marking l.fn.stale l.stale;
  awake : l.stale.awake ≡ l.fn.stale.awake;
  own : slice_get l.stale.timers l.fn.leaf.0 ≡ Some true;
}
