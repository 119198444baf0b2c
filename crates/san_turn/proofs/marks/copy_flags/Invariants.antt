use Rattle.std.proofs.Common.{◌≡◌, ◌<◌, ℕ, length}
use Rattle.san_law.specs.Order.{flag}
use Rattle.san_turn.proofs.marks.copy_flags.Given as goal

abbrev pub invariant-leaves : goal.invariant-leaves
invariant-leaves l = record {
  sized : length l.copy ≡ l.leaves;
  same : (i : ℕ) → i < l.leaf → flag l.copy i ≡ flag l.flags i;
}
