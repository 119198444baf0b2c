-- Summaries, each changed by what stands in its place of another list.
use Rattle.std.specs.Prelude.{ℕ, suc, ◌+◌, ◌≡◌, ◌<◌, ℤ, Bool, cond, List, [], ◌∷◌, length, Option, None, slice_index_or}
use Rattle.san_summary.specs.Batches.{Sums}
use Rattle.san_summary.specs.declared.summary.Summary.{Summary}
use Rattle.san_summary.specs.inner.Joined.{CanCount, CanJoinOne, counted, joined, none}

abbrev pub by_place : (ℕ → Summary → Summary) → ℕ → List Summary → List Summary
by_place f r [] = []
by_place f r (s ∷ ss) = f r s ∷ by_place f (suc r) ss

abbrev pub at : List Summary → ℕ → Summary
at ss r = slice_index_or ss r none

abbrev pub all_joined : List Summary → List Summary → List Summary
all_joined mine others = by_place (λ r s. joined s (at others r)) 0 mine

abbrev pub all_counted : List Summary → List (Option ℤ) → List Summary
all_counted mine xs = by_place (λ r s. counted s (slice_index_or xs r None)) 0 mine

abbrev pub CanJoinAll : List Summary → List Summary → Type 0
CanJoinAll mine others = (length others ≡ length mine) × ((r : ℕ) → r < length mine → CanJoinOne (at mine r) (at others r))

abbrev pub CanCountAll : List Summary → List (Option ℤ) → Type 0
CanCountAll mine xs = (length xs ≡ length mine) × ((r : ℕ) → r < length mine → CanCount (at mine r) (slice_index_or xs r None))

abbrev pub sums_joined : Sums → Sums → Sums
sums_joined a b = record { runs = a.runs + b.runs; stopped = a.stopped + b.stopped; rewards = all_joined a.rewards b.rewards }

abbrev pub with_run : Sums → Bool → List (Option ℤ) → Sums
with_run a stopped xs = record { runs = a.runs + 1; stopped = a.stopped + cond stopped 1 0; rewards = all_counted a.rewards xs }
