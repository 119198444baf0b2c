-- The report of a run: a line for each event, numbered from 0, the ending's line, a line for each reward. Its summary leaves out all event lines but the last.
use Rattle.std.specs.Prelude.{ℕ, suc, ◌≡◌, ◌++◌, List, [], ◌∷◌, length, Option, Some, None, Result, Ok, Err}
use Rattle.std.specs.Option.{option_map}
use Rattle.san_base.specs.Flow.{Appends, AppendsPrefix}
use Rattle.san_base.specs.declared.ending.Ending.{Ending}
use Rattle.san_base.specs.declared.limits.Limits.{Limits}
use Rattle.san_draw.specs.Key.{draw_of}
use Rattle.san_law.specs.Net.{Net}
use Rattle.san_law.specs.Reward.{worth}
use Rattle.san_law.specs.State.{opening_state}
use Rattle.san_law.specs.Step as law
use Rattle.san_law.specs.Trajectory.{Trajectory, trajectory}
use Rattle.san_net.specs.Network.{Network, net_of}
use Rattle.san_report.specs.Lines.{ending_line, event_line, reward_lines}
use Rattle.san_reward.specs.Worth.{worth_of}
use Rattle.san_reward.specs.declared.worth.Worth.{Worth}
use Rattle.san_plain.specs.declared.run.Unwritten.{Unwritten}
use Rattle.san_net.specs.Runs.{ending_in, event_in, limits_in}

-- a run that has not begun
pub record Opened : Type 0 where
  pub network : Network
  pub seed : ℕ
  pub limits : Limits

-- the law's net, whose draws are the seed's
abbrev pub net_by : Opened → Net
net_by o = net_of o.network (draw_of o.seed) (limits_in o.limits)

abbrev pub event_lines : Network → ℕ → List law.Event → List ℕ
event_lines n k [] = []
event_lines n k (e ∷ es) = event_line n k (event_in n e) ++ event_lines n (suc k) es

-- a run that stopped has no worths
abbrev pub worth_at : Net → List law.Event → law.Ending → ℕ → Option Worth
worth_at net es law.End r = Some (worth_of (worth net r (opening_state net) es))
worth_at net es e r = None

abbrev pub report_by : Network → Net → Option Trajectory → List ℕ
report_by n net None = []
report_by n net (Some t) = event_lines n 0 t.events ++ (ending_line n (length t.events) (ending_in n t.time t.ending) ++ reward_lines n.rewards 0 (worth_at net t.events t.ending))

-- every run has a trajectory
abbrev pub report_of : Opened → List ℕ
report_of o = report_by o.network (net_by o) (trajectory (net_by o) (opening_state (net_by o)))

-- the line of the last event, where the first has this number
abbrev pub last_line : Network → ℕ → List law.Event → List ℕ
last_line n k [] = []
last_line n k (e ∷ []) = event_line n k (event_in n e)
last_line n k (e ∷ (f ∷ es)) = last_line n (suc k) (f ∷ es)

abbrev pub summary_by : Network → Net → Option Trajectory → List ℕ
summary_by n net None = []
summary_by n net (Some t) = last_line n 0 t.events ++ (ending_line n (length t.events) (ending_in n t.time t.ending) ++ reward_lines n.rewards 0 (worth_at net t.events t.ending))

abbrev pub summary_of : Opened → List ℕ
summary_of o = summary_by o.network (net_by o) (trajectory (net_by o) (opening_state (net_by o)))

abbrev pub ending_of : Opened → Option Ending
ending_of o = option_map (λ t. ending_in o.network t.time t.ending) (trajectory (net_by o) (opening_state (net_by o)))

-- a run's whole text was written, and so the run ended; or a front part of it
abbrev pub Writes : List ℕ → Result Ending Unwritten → Opened → Option (List ℕ) → Option (List ℕ) → Type 0
Writes text (Ok e) o old new = (ending_of o ≡ Some e) × Appends old new text
Writes text (Err fault) o old new = AppendsPrefix old new text

abbrev pub Reports : Result Ending Unwritten → Opened → Option (List ℕ) → Option (List ℕ) → Type 0
Reports r o old new = Writes (report_of o) r o old new

abbrev pub Summarizes : Result Ending Unwritten → Opened → Option (List ℕ) → Option (List ℕ) → Type 0
Summarizes r o old new = Writes (summary_of o) r o old new
