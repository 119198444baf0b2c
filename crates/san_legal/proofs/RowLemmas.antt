-- Rows in which draws were taken.
use Rattle.std.proofs.Common.{ℕ, zero, suc, ◌+◌, ◌≤◌, ◌<◌, ◌≡◌, ◌∙◌, refl, arith, List, [], ◌∷◌, length, None, slice_index_or, slice_set}
use Rattle.std.specs.Prelude.{slice_index}
use Rattle.std.proofs.lemmas.List.{length-set}
use Rattle.san_law.specs.Activity.{with_case}
use Rattle.san_law.specs.Net.{Row, no_row, without_timer}

abbrev pub row_at : List Row → ℕ → Row
row_at rows j = slice_index_or rows j no_row

-- as many timers and numbers, and no smaller numbers
pub record IsMore (old new : Row) : Type 0 where
  pub timers : length new.timers ≡ length old.timers
  pub delays : length new.delays ≡ length old.delays
  pub cases : length new.cases ≡ length old.cases
  pub more_delays : (k : ℕ) → slice_index old.delays k ≤ slice_index new.delays k
  pub more_cases : (k : ℕ) → slice_index old.cases k ≤ slice_index new.cases k

pub same_more : (r : Row) → IsMore r r
same_more r = record { timers = refl; delays = refl; cases = refl; more_delays = λ k. omega arith; more_cases = λ k. omega arith }

pub more_then : (a b c : Row) → IsMore a b → IsMore b c → IsMore a c
more_then a b c h g = record {
  timers = g.timers ∙ h.timers;
  delays = g.delays ∙ h.delays;
  cases = g.cases ∙ h.cases;
  more_delays = λ k. omega (arith, h.more_delays k, g.more_delays k);
  more_cases = λ k. omega (arith, h.more_cases k, g.more_cases k);
}

-- a number that was counted up
up_more : (cs : List ℕ) (k i : ℕ) → slice_index cs i ≤ slice_index (slice_set cs k (slice_index cs k + 1)) i
up_more [] k i = omega arith
up_more (c ∷ cs) zero zero = omega arith
up_more (c ∷ cs) zero (suc i) = omega arith
up_more (c ∷ cs) (suc k) zero = omega arith
up_more (c ∷ cs) (suc k) (suc i) = up_more cs k i

up_one : (cs : List ℕ) (k : ℕ) → k < length cs → slice_index cs k < slice_index (slice_set cs k (slice_index cs k + 1)) k
up_one [] k h = absurd (omega (arith, h))
up_one (c ∷ cs) zero h = omega arith
up_one (c ∷ cs) (suc k) h = up_one cs k (omega (arith, h))

pub case_more : (r : Row) (k : ℕ) → IsMore r (with_case r k)
case_more r k = record {
  timers = refl;
  delays = refl;
  cases = length-set r.cases k (slice_index r.cases k + 1);
  more_delays = λ i. omega arith;
  more_cases = λ i. up_more r.cases k i;
}

pub case_one : (r : Row) (k : ℕ) → k < length r.cases → slice_index r.cases k < slice_index (with_case r k).cases k
case_one r k h = up_one r.cases k h

pub timer_more : (r : Row) (k : ℕ) → IsMore r (without_timer r k)
unfolding without_timer
timer_more r k = record {
  timers = length-set r.timers k None;
  delays = refl;
  cases = refl;
  more_delays = λ i. omega arith;
  more_cases = λ i. omega arith;
}

-- among rows
pub set_more : (rows : List Row) (j : ℕ) (new : Row) → IsMore (row_at rows j) new → (i : ℕ) → IsMore (row_at rows i) (row_at (slice_set rows j new) i)
set_more [] j new h i = same_more no_row
set_more (r ∷ rows) zero new h zero = h
set_more (r ∷ rows) zero new h (suc i) = same_more (row_at rows i)
set_more (r ∷ rows) (suc j) new h zero = same_more r
set_more (r ∷ rows) (suc j) new h (suc i) = set_more rows j new h i

-- a row that has a number is there
pub set_there : (rows : List Row) (j k : ℕ) (new : Row) → k < length (row_at rows j).cases → row_at (slice_set rows j new) j ≡ new
set_there [] j k new h = absurd (omega (arith, h))
set_there (r ∷ rows) zero k new h = refl
set_there (r ∷ rows) (suc j) k new h = set_there rows j k new h

-- what a row that is set has as the old one had it
pub set_keeps : {A : Type 0} (f : Row → A) (rows : List Row) (j : ℕ) (new : Row) → f new ≡ f (row_at rows j) → (i : ℕ) → f (row_at (slice_set rows j new) i) ≡ f (row_at rows i)
set_keeps f [] j new e i = refl
set_keeps f (r ∷ rows) zero new e zero = e
set_keeps f (r ∷ rows) zero new e (suc i) = refl
set_keeps f (r ∷ rows) (suc j) new e zero = refl
set_keeps f (r ∷ rows) (suc j) new e (suc i) = set_keeps f rows j new e i
