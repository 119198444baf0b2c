use Rattle.std.proofs.Common.{All, ℕ, ◌≡◌, ◌<◌, drop, length}
use Rattle.san_base.specs.declared.numbers.PlaceId.{PlaceId}
use Rattle.san_speculation.specs.inner.Soonest.{touched_all}
use Rattle.san_speculation.proofs.soonest.touch_written.Given as goal

abbrev pub invariant-written : goal.invariant-written
invariant-written l = record {
  places : All (λ (w : PlaceId × ℕ). w.0.0 < length l.network.initial) (drop l.write-index l.written);
  keys : length l.soonest ≡ length l.network.parts;
  done : touched_all l.network.parts (drop l.write-index l.written) l.soonest ≡ touched_all l.network.parts l.written l.fn.soonest;
}
