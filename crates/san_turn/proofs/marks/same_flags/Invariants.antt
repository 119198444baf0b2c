use Rattle.std.proofs.Common.{◌≡◌, ◌<◌, ℕ}
use Rattle.san_law.specs.Order.{flag}
use Rattle.san_turn.proofs.marks.same_flags.Given as goal

abbrev pub invariant-leaves : goal.invariant-leaves
invariant-leaves l = (i : ℕ) → i < l.leaf → flag l.a i ≡ flag l.b i
