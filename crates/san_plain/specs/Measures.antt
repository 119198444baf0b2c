-- What a run comes to without its report.
use Rattle.std.specs.Prelude.{ℕ, suc, ◌≤◌, List, [], ◌∷◌, Option, None, Some, slice_index_or, unsigned_abs}
use Rattle.std.specs.Option.{option_map}
use Rattle.san_base.specs.declared.limits.TheConstants.{MAX_WORTH}
use Rattle.san_base.specs.declared.ending.Ending.{Ending}
use Rattle.san_law.specs.Net.{Net}
use Rattle.san_law.specs.State.{opening_state}
use Rattle.san_law.specs.Trajectory.{Trajectory, trajectory}
use Rattle.san_net.specs.Network.{Network}
use Rattle.san_net.specs.declared.part.Reward.{Reward}
use Rattle.san_reward.specs.declared.worth.Worth.{Worth}
use Rattle.san_reward.specs.declared.worth.Worth.TheVariants as worth
use Rattle.san_net.specs.Runs.{ending_in}
use Rattle.san_plain.specs.Reports.{Opened, net_by, worth_at}

-- how a run ended, and the worth of each reward, unless it stopped
pub record Measured : Type 0 where
  pub ending : Ending
  pub worths : List (Option Worth)

-- the worths of rewards that are numbered from r on
abbrev pub worths_from : List Reward → ℕ → (ℕ → Option Worth) → List (Option Worth)
worths_from [] r of = []
worths_from (x ∷ xs) r of = of r ∷ worths_from xs (suc r) of

abbrev pub measured_by : Network → Net → Trajectory → Measured
measured_by n net t = record { ending = ending_in n t.time t.ending; worths = worths_from n.rewards 0 (worth_at net t.events t.ending) }

-- every run has a trajectory
abbrev pub measured_of : Opened → Option Measured
measured_of o = option_map (measured_by o.network (net_by o)) (trajectory (net_by o) (opening_state (net_by o)))

-- a sum within MAX_WORTH either way, or none
abbrev pub IsSmallSum : Option Worth → Type 0
IsSmallSum (Some (worth.Sum x)) = unsigned_abs x ≤ MAX_WORTH
IsSmallSum (Some (worth.Mean x ticks)) = unsigned_abs x ≤ MAX_WORTH
IsSmallSum w = Unit {0}

-- so that the sums of many runs are summed in 128 bits
abbrev pub AreSmallWorths : List (Option Worth) → Type 0
AreSmallWorths ws = (r : ℕ) → IsSmallSum (slice_index_or ws r None)
