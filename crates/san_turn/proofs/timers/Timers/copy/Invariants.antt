use Rattle.std.proofs.Common.{◌≡◌, ◌<◌, ℕ, None, length, slice_index_or}
use Rattle.san_turn.proofs.timers.Timers.copy.Given as goal

abbrev pub invariant-leaves : goal.invariant-leaves
invariant-leaves l = record {
  sized : length l.keys ≡ length l.self-inside.keys;
  same : (i : ℕ) → i < l.leaf → slice_index_or l.keys i None ≡ slice_index_or l.self-inside.keys i None;
}
