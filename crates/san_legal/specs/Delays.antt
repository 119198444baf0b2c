-- The delays that some draw gives, and the cases that some draw chooses.
use Rattle.std.specs.Prelude.{ℕ, ◌^◌, ◌≤◌, ◌<◌, ◌≡◌, ◌↔◌, nat_le, List, map, sum, slice_index, Result, Ok, Err, if◌then◌else◌}
use Rattle.san_base.specs.Draws.{weighted_choice}
use Rattle.san_base.specs.declared.ending.Trap.{Trap}
use Rattle.san_base.specs.declared.ending.Trap.TheVariants as trap
use Rattle.san_expr.specs.Delay.{Ticks, delay_of, geometric, ticks_of}
use Rattle.san_expr.specs.Meaning.{Meaning, settled, then_do}
use Rattle.san_expr.specs.Value.{value_of}
use Rattle.san_expr.specs.declared.dist.Dist.{Dist}
use Rattle.san_expr.specs.declared.dist.Dist.TheVariants as dist
use Rattle.san_delay.specs.Sound.{IsSoundDelay}

-- a number, each number of a span, the delays of a table's entries of positive weight, or each from 1 up to the longest
pub data Delays : Type 0 where
  Exactly : (ticks : ℕ) → Delays
  Between : (low high : ℕ) → Delays
  OneOf : (entries : List (ℕ × ℕ)) → Delays
  UpTo : (longest : ℕ) → Delays

abbrev pub IsDelayOf : Delays → ℕ → Type 0
IsDelayOf (Exactly n) ticks = ticks ≡ n
IsDelayOf (Between low high) ticks = (low ≤ ticks) × (ticks ≤ high)
IsDelayOf (OneOf entries) ticks = (k : ℕ) × (0 < slice_index (map (λ e. e.1) entries) k) × (slice_index (map (λ e. e.0) entries) k ≡ ticks)
IsDelayOf (UpTo longest) ticks = (1 ≤ ticks) × (ticks ≤ longest)

-- a value's delay
abbrev pub exactly : Ticks → Result Delays Trap
exactly (Err t) = Err t
exactly (Ok n) = Ok (Exactly n)

-- those of two bounds
abbrev pub span_of : Ticks → Ticks → Result Delays Trap
span_of (Err t) high = Err t
span_of (Ok a) (Err t) = Err t
span_of (Ok a) (Ok b) = if nat_le a b then Ok (Between a b) else Err trap.Delay

-- a distribution's delays in a marking, or its trap; a geometric delay is longest at the least draw
abbrev pub delays_of : Dist → Meaning Delays
delays_of (dist.Det e) = then_do (value_of e) (λ x. settled (exactly (ticks_of x)))
delays_of (dist.Uniform low high) = then_do (value_of low) (λ x. then_do (value_of high) (λ y. settled (span_of (ticks_of x) (ticks_of y))))
delays_of (dist.Geom p q) = settled (Ok (UpTo (geometric p q 0)))
delays_of (dist.Table entries) = settled (Ok (OneOf entries))

-- some draw answers a number of ticks
abbrev pub IsGiven : (ℕ → Ticks) → ℕ → Type 0
IsGiven answers ticks = (u : ℕ) × (u < 2 ^ 64) × (answers u ≡ Ok ticks)

-- the delays are those that some draw answers, and no draw traps; or each draw traps so
abbrev pub AreThose : (ℕ → Ticks) → Result Delays Trap → Type 0
AreThose answers (Ok delays) = ((ticks : ℕ) → IsGiven answers ticks ↔ IsDelayOf delays ticks) × ((u : ℕ) → u < 2 ^ 64 → (ticks : ℕ) × (answers u ≡ Ok ticks))
AreThose answers (Err t) = (u : ℕ) → u < 2 ^ 64 → answers u ≡ Err t

abbrev pub DelaysAreThoseOfDraws : Dist → Type 0
DelaysAreThoseOfDraws d = IsSoundDelay d → (values : List ℕ) → AreThose (λ u. (delay_of d u values).answer) (delays_of d values).answer

-- where weights are chosen from, each positive one is chosen by some draw, and no other
abbrev pub WeightsAreDrawn : List ℕ → Type 0
WeightsAreDrawn weights = 1 ≤ sum weights → sum weights ≤ 2 ^ 32 → (k : ℕ) → ((u : ℕ) × (u < 2 ^ 64) × (weighted_choice u weights ≡ k)) ↔ (0 < slice_index weights k)
