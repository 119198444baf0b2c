use Rattle.std.proofs.Common.{◌-◌, ◌++◌, ◌≡◌, ◌≤◌, None, Some, replicate}
use Rattle.san_speculation.proofs.soonest.unknown.Given as goal

abbrev pub invariant-leaves : goal.invariant-leaves
invariant-leaves l = record {
  within : l.leaf ≤ l.leaves;
  done : l.soonest ≡ replicate l.leaf (Some 0) ++ replicate (l.leaves - l.leaf) None;
}
