use Rattle.std.proofs.Common.{ℕ, ◌≡◌, ◌<◌, suc, length, slice_index}
use Rattle.san_expr.specs.Delay.{chance_left}
use Rattle.san_delay.proofs.geometric.GeometricTable.new.Given as goal

abbrev pub invariant-ticks : goal.invariant-ticks
invariant-ticks l = record {
  is : l.left ≡ chance_left l.p l.q (length l.chances.items);
  turns : length l.chances.items ≡ l.counter;
  each : (k : ℕ) → k < length l.chances.items → slice_index l.chances.items k ≡ chance_left l.p l.q (suc k);
}
