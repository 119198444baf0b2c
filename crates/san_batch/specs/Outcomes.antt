-- What a batch of runs comes to: run k has the first seed plus k.
use Rattle.std.specs.Prelude.{ℕ, zero, suc, ℤ, Bool, true, false, List, [], ◌∷◌, length, map, Option, Some, None}
use Rattle.san_base.specs.declared.ending.Ending.{Ending}
use Rattle.san_base.specs.declared.ending.Ending.TheVariants as ending
use Rattle.san_base.specs.declared.limits.Limits.{Limits}
use Rattle.san_net.specs.Network.{Network}
use Rattle.san_plain.specs.Measures.{Measured, measured_of}
use Rattle.san_reward.specs.declared.worth.Worth.{Worth}
use Rattle.san_reward.specs.declared.worth.Worth.TheVariants as worth
use Rattle.san_summary.specs.Batches.{Outcome, Sums, sums_of}

-- a sum, or a mean's sum, undivided
abbrev pub number_of : Option Worth → Option ℤ
number_of (Some (worth.Sum x)) = Some x
number_of (Some (worth.Mean x ticks)) = Some x
number_of (Some worth.Fault) = None
number_of (Some worth.Beyond) = None
number_of None = None

abbrev pub stops : Ending → Bool
stops (ending.End horizon) = false
stops (ending.Stop why) = true

-- every run is measured
abbrev pub outcome_in : Option Measured → Outcome
outcome_in None = record { stopped = false; numbers = [] }
outcome_in (Some m) = record { stopped = stops m.ending; numbers = map number_of m.worths }

abbrev pub outcome_of : Network → Limits → ℕ → Outcome
outcome_of n limits seed = outcome_in (measured_of (record { network = n; seed = seed; limits = limits }))

-- the runs with so many seeds from one on
abbrev pub outcomes_of : Network → Limits → ℕ → ℕ → List Outcome
outcomes_of n limits seed zero = []
outcomes_of n limits seed (suc k) = outcome_of n limits seed ∷ outcomes_of n limits (suc seed) k

abbrev pub batch_of : Network → Limits → ℕ → ℕ → Sums
batch_of n limits seed runs = sums_of (length n.rewards) (outcomes_of n limits seed runs)
