-- What runs come to, by what each of them comes to.
use Rattle.std.specs.Prelude.{ℕ, zero, suc, ◌+◌, ◌≡◌, ◌≤◌, ◌<◌, ℤ, unsigned_abs, Bool, List, [], ◌∷◌, length, Option, Some, None, slice_index_or, count_by}
use Rattle.san_base.specs.declared.limits.TheConstants.{MAX_WORTH}
use Rattle.san_summary.specs.Summaries.{summary_of}
use Rattle.san_summary.specs.declared.batch.TheConstants.{MAX_RUNS}
use Rattle.san_summary.specs.declared.summary.Summary.{Summary}

-- whether a run stopped, and for each reward its number, if it has one
pub record Outcome : Type 0 where
  pub stopped : Bool
  pub numbers : List (Option ℤ)

-- one number more, if there is one
abbrev pub with_number : Option ℤ → List ℤ → List ℤ
with_number None xs = xs
with_number (Some x) xs = x ∷ xs

-- the numbers of a reward
abbrev pub numbers_at : ℕ → List Outcome → List ℤ
numbers_at r [] = []
numbers_at r (o ∷ os) = with_number (slice_index_or o.numbers r None) (numbers_at r os)

-- the summaries of so many rewards from one on
abbrev pub summaries : ℕ → ℕ → List Outcome → List Summary
summaries r zero os = []
summaries r (suc many) os = summary_of (numbers_at r os) ∷ summaries (suc r) many os

pub record Sums : Type 0 where
  pub runs : ℕ
  pub stopped : ℕ
  pub rewards : List Summary

-- what runs come to: how many there are, how many stopped, and a summary for each of so many rewards
abbrev pub sums_of : ℕ → List Outcome → Sums
sums_of many os = record { runs = length os; stopped = count_by (λ o. o.stopped) os; rewards = summaries 0 many os }

-- a number within MAX_WORTH either way, or none
abbrev pub IsSmallNumber : Option ℤ → Type 0
IsSmallNumber None = Unit {0}
IsSmallNumber (Some x) = unsigned_abs x ≤ MAX_WORTH

-- all numbers of the runs
abbrev pub AreSmall : List Outcome → Type 0
AreSmall [] = Unit {0}
AreSmall (o ∷ os) = ((r : ℕ) → IsSmallNumber (slice_index_or o.numbers r None)) × AreSmall os

-- a run can be added: the sums are those of some runs, fewer than the most, and no number is too great
pub record CanAdd (s : Sums) (numbers : List (Option ℤ)) : Type 0 where
  pub many : ℕ
  pub outcomes : List Outcome
  pub is : s ≡ sums_of many outcomes
  pub few : length outcomes < MAX_RUNS
  pub small : AreSmall outcomes
  pub sized : length numbers ≡ many
  pub numbers_small : (r : ℕ) → IsSmallNumber (slice_index_or numbers r None)

-- runs can be added: both are the sums of some runs, together not more than the most, and no number is too great
pub record CanJoin (s t : Sums) : Type 0 where
  pub many : ℕ
  pub first : List Outcome
  pub second : List Outcome
  pub first_is : s ≡ sums_of many first
  pub second_is : t ≡ sums_of many second
  pub few : length first + length second ≤ MAX_RUNS
  pub first_small : AreSmall first
  pub second_small : AreSmall second
