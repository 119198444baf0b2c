-- How great a worth may be.
use Rattle.std.specs.Prelude.{ℕ, ◌≤◌, unsigned_abs, All, List, [], ◌∷◌, None, Some}
use Rattle.san_base.specs.declared.limits.TheConstants.{MAX_RATED, MAX_WORTH}
use Rattle.san_law.specs.Reward.{Beyond, Faulted, Mean, Sum, Worth}
use Rattle.san_law.specs.Step.{Event}
use Rattle.san_law.specs.Net.{Rated}

-- a number of at most so great an absolute value, or none
abbrev pub IsAtMost : ℕ → Rated → Type 0
IsAtMost n None = Unit {0}
IsAtMost n (Some w) = unsigned_abs w ≤ n

-- each impulse is the value of a term
abbrev pub AreRated : List Event → Type 0
AreRated [] = Unit {0}
AreRated (e ∷ es) = All (λ i. IsAtMost MAX_RATED i.rated) e.impulses × AreRated es

-- so that many of them are summed in 128 bits
abbrev pub IsSmallWorth : Worth → Type 0
IsSmallWorth (Sum sum) = unsigned_abs sum ≤ MAX_WORTH
IsSmallWorth (Mean sum ticks) = unsigned_abs sum ≤ MAX_WORTH
IsSmallWorth Faulted = Unit {0}
IsSmallWorth Beyond = Unit {0}
