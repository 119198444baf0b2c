-- When a condition first holds in a stable state of a run.
use Rattle.std.specs.Prelude.{ℕ, zero, suc, ◌-◌, Bool, true, false, List, Option, Some, None}
use Rattle.san_base.specs.declared.ending.Ending.{Ending}
use Rattle.san_base.specs.declared.ending.Ending.TheVariants as ending
use Rattle.san_base.specs.declared.limits.Limits.{Limits}
use Rattle.san_law.specs.Net.{Net}
use Rattle.san_law.specs.Next.{next_instant}
use Rattle.san_law.specs.State.{State}
use Rattle.san_law.specs.Step as law
use Rattle.san_net.specs.Network.{Network}
use Rattle.san_net.specs.Runs.{ending_in}
use Rattle.san_seq.specs.FlatRun.{Done, On, Run, RunPhase, marking_of, net_in, opening, stable_of, where_stable}
use Rattle.san_seq.specs.declared.steps.Stable.{Stable}
use Rattle.san_passage.specs.declared.passage.Passage.{Passage}
use Rattle.san_passage.specs.declared.passage.Passage.TheVariants as passage

-- where a state is stable, if the condition holds
abbrev pub met_by : Bool → Option Stable → Option Stable
met_by true at = at
met_by false at = None

abbrev pub met : Net → (List ℕ → Bool) → State → Option Stable
met net holds s = met_by (holds s.marking) (where_stable (next_instant net s) s)

abbrev pub met_in : (List ℕ → Bool) → Run → Option Stable
met_in holds r = met_by (holds (marking_of r.run_phase)) (stable_of r)

abbrev pub over_by : Ending → Passage
over_by (ending.End horizon) = passage.Never
over_by (ending.Stop why) = passage.Stopped why

-- the condition is asked before the step; then the run goes on, or is over
abbrev pub passed : Network → Option Stable → law.Stepped → (State → Option Passage) → State → Option Passage
passed n (Some at) x go s = Some (passage.At at.time at.count)
passed n None (law.Over time e) go s = Some (over_by (ending_in n time e))
passed n None (law.Happened e) go s = go s

-- within so many steps
abbrev pub passage_in : Network → Net → (List ℕ → Bool) → ℕ → State → Option Passage
passage_in n net holds zero s = None
passage_in n net holds (suc k) s = passed n (met net holds s) (law.step net s).0 (passage_in n net holds k) (law.step net s).1

-- no run has more events than the limit, so these steps suffice
abbrev pub passage_at : Network → Net → (List ℕ → Bool) → State → Option Passage
passage_at n net holds s = passage_in n net holds (suc (net.limit - s.count)) s

abbrev pub passage_by : Network → Net → (List ℕ → Bool) → RunPhase → Option Passage
passage_by n net holds (On s) = passage_at n net holds s
passage_by n net holds (Done marking e) = Some (over_by e)

abbrev pub passage_from : (List ℕ → Bool) → Run → Option Passage
passage_from holds r = passage_by r.network (net_in r) holds r.run_phase

abbrev pub passage_of : Network → ℕ → Limits → (List ℕ → Bool) → Option Passage
passage_of n seed limits holds = passage_from holds (opening n seed limits)
