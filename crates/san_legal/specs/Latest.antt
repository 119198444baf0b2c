-- A timer has a due time later than a bound exactly where the latest of them is later.
use Rattle.std.specs.Prelude.{ℕ, ◌+◌, ◌≡◌, ◌↔◌, Option, Some, Ok}
use Rattle.san_delay.specs.Longest.{longest_of}
use Rattle.san_delay.specs.Sound.{IsSoundDelay}
use Rattle.san_expr.specs.Delay.{delay_of}
use Rattle.san_expr.specs.declared.dist.Dist.{Dist}
use Rattle.san_law.specs.Activity.{Pair, Timed}
use Rattle.san_law.specs.Renewal.{Due}
use Rattle.san_legal.specs.Kept.{HasOne, IsLater, KeptTimer}

abbrev pub LatestDecides : Dist → Type 0
LatestDecides d = IsSoundDelay d → (b : Due) (j i : ℕ) (pair : Option Pair) (x : KeptTimer) (longest : ℕ) → (longest_of d x.values).answer ≡ Ok longest
    → HasOne b j i (Timed (λ u v. (delay_of d u v).answer) pair) (Some x) ↔ IsLater b j i (x.since + longest)
