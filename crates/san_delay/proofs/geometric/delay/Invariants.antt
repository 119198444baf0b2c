use Rattle.std.proofs.Common.{◌≡◌, ℕ, ◌+◌, ◌^◌, ◌<◌, ◌≤◌}
use Rattle.san_expr.specs.Delay.{chance_left}
use Rattle.san_delay.proofs.geometric.delay.Given as goal

abbrev pub invariant-loop-left : goal.invariant-loop-left
invariant-loop-left l = record {
  is : l.left ≡ chance_left l.p l.q l.ticks;
  some : 1 ≤ l.ticks;
  room : l.left + l.ticks < 2 ^ 64;
  before : (k : ℕ) → 1 ≤ k → k < l.ticks → l.u < chance_left l.p l.q k;
}

abbrev pub decreases-loop-left : goal.decreases-loop-left
decreases-loop-left l = l.left
