-- The running sums of rewards.
use Rattle.std.specs.Prelude.{ℕ, suc, ◌+◌, ◌-◌, List, [], ◌∷◌, length, slice_index_or}
use Rattle.san_law.specs.Net.{Net, Rated}
use Rattle.san_law.specs.Step.{Event}
use Rattle.san_law.specs.Reward.{Worth, events_sum, plus, span_of, sum_ticks, tick_sum, worth_by, zero_sum}

-- the leaves' present rates, each reward's sum for the ticks before the time and the impulses so far, and how many impulses were counted
pub record Tally : Type 0 where
  pub rates : List (List Rated)
  pub sums : List Rated
  pub impulses : ℕ

-- a reward's sum so far
abbrev pub sum_of : Tally → ℕ → Rated
sum_of t r = slice_index_or t.sums r zero_sum

-- sums changed by number
abbrev pub sums_from : (ℕ → Rated → Rated) → ℕ → List Rated → List Rated
sums_from f r [] = []
sums_from f r (s ∷ ss) = f r s ∷ sums_from f (suc r) ss

-- how many impulses events have
abbrev pub impulses_in : List Event → ℕ
impulses_in [] = 0
impulses_in (e ∷ es) = length e.impulses + impulses_in es

-- the present rates go on for so many ticks from one on
abbrev pub going_on : Net → Tally → ℕ → ℕ → ℕ → Rated → Rated
going_on net t from ticks r sum = plus sum (sum_ticks (λ u. tick_sum net r u t.rates) from ticks)

-- the ticks from one time to another at the present rates, and then the impulses of events
abbrev pub tally_after : Net → Tally → ℕ → ℕ → List Event → Tally
tally_after net t from to es = record {
  rates = t.rates;
  sums = sums_from (λ r sum. plus (going_on net t from (to - from) r sum) (events_sum net r es)) 0 t.sums;
  impulses = t.impulses + impulses_in es;
}

-- a reward's worth where the present rates go on to the end of the horizon's tick
abbrev pub tally_worth : Net → Tally → ℕ → ℕ → Worth
tally_worth net t time r = worth_by net.horizon (span_of net r) (going_on net t time (net.horizon + 1 - time) r (sum_of t r))
