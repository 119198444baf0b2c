-- A run under way: how it stands for a state of the law's run, and what of its report is still to come.
use Rattle.std.specs.Prelude.{ℕ, ◌≡◌, ◌≤◌, ◌<◌, ◌++◌, List, [], ◌∷◌, length, Option, Some, None, Result, Ok, Err}
use Rattle.san_base.specs.Flow.{AppendsPrefix}
use Rattle.san_base.specs.Limits.{IsInRange}
use Rattle.san_base.specs.declared.ending.Ending.{Ending}
use Rattle.san_base.specs.declared.ending.Event.{Event}
use Rattle.san_law.specs.Standing.{Counts}
use Rattle.san_law.specs.State.{State, opening_state}
use Rattle.san_law.specs.Step as law
use Rattle.san_law.specs.Trajectory.{Runs, Trajectory, trajectory}
use Rattle.san_net.specs.Laid.{IsNetwork, acts_of}
use Rattle.san_net.specs.Network.{Network}
use Rattle.san_report.specs.Lines.{ending_line, event_line, reward_lines}
use Rattle.san_report.specs.Puts.{EndsIn}
use Rattle.san_reward.specs.Running.{IsOf, rates_in}
use Rattle.san_plain.specs.inner.Accounts.{RewardAccount, opened_account}
use Rattle.san_report.specs.Closings.{closing}
use Rattle.san_report.specs.Pages.{Sent}
use Rattle.san_plain.specs.Reports.{Opened, ending_of, event_lines, net_by, report_of, worth_at}
use Rattle.san_plain.specs.declared.counted.CountedRun.{CountedRun}
use Rattle.san_plain.specs.declared.counted.Outcome.{Outcome}
use Rattle.san_plain.specs.declared.run.RunInProgress.{RunInProgress}
use Rattle.san_plain.specs.declared.run.Unwritten.{Unwritten}
use Rattle.san_seq.specs.FlatRun.{On, Run, opening, steps_left}
use Rattle.san_net.specs.Runs.{ending_in, event_in}

-- the run that it was opened for
abbrev pub opened_by : CountedRun → Opened
opened_by c = record { network = c.flat.now; seed = c.seq.seed; limits = c.limits }

-- no event came yet
pub record IsOpened (c : CountedRun) : Type 0 where
  pub range : IsInRange c.limits
  pub run : c.seq ≡ opening c.flat.now c.seq.seed c.limits
  pub rewards : c.account ≡ opened_account c.flat.now c.limits.horizon.0
  pub none : c.count ≡ 0

-- an account has counted the events of a run that came to a state
pub record HasCounted (o : Opened) (es : List law.Event) (s : State) (a : RewardAccount) : Type 0 where
  pub of_network : a.network ≡ o.network
  pub at_marking : a.marking ≡ s.marking
  pub is_of : IsOf (net_by o) a.running
  pub rates : a.running.tally.rates ≡ rates_in o.network s.marking
  pub counts : Counts (net_by o) (opening_state (net_by o)) es a.running.time a.running.tally
  pub early : a.running.time ≤ s.time

-- a run that goes on from a state
abbrev pub run_at : Opened → State → Run
run_at o s = record { network = o.network; seed = o.seed; limits = o.limits; run_phase = On s }

-- a run stands for a state that the law's run comes to by these events
pub record RunStands (o : Opened) (es : List law.Event) (s : State) (c : CountedRun) : Type 0 where
  pub known : IsNetwork o.network
  pub range : IsInRange o.limits
  pub of_network : c.flat.now ≡ o.network
  pub in_limits : c.limits ≡ o.limits
  pub runs : Runs (net_by o) (opening_state (net_by o)) es s
  pub at_state : c.seq ≡ run_at o s
  pub counted : HasCounted o es s c.account
  pub many : c.count ≡ length es

-- it does for some state of some run
abbrev pub IsStanding : CountedRun → Type 0
IsStanding c = (o : Opened) × (es : List law.Event) × (s : State) × RunStands o es s c

-- a step with an event
pub record Happens (o : Opened) (es : List law.Event) (s : State) (event : Event) (old new : CountedRun) : Type 0 where
  pub happened : law.Event
  pub happens : (law.step (net_by o) s).0 ≡ law.Happened happened
  pub event_is : event_in o.network happened ≡ event
  pub stands : RunStands o (es ++ happened ∷ []) (law.step (net_by o) s).1 new
  pub fewer : steps_left new.seq < steps_left old.seq
  pub inside : event.act.0 < acts_of new.flat.now.parts

-- a step with the ending
pub record Ends (o : Opened) (s : State) (e : Ending) (old new : CountedRun) : Type 0 where
  pub time : ℕ
  pub why : law.Ending
  pub over : (law.step (net_by o) s).0 ≡ law.Over time why
  pub ending_is : ending_in o.network time why ≡ e
  pub kept : new ≡ record old { seq = new.seq }

abbrev pub StepsTo : Opened → List law.Event → State → Result Event Ending → CountedRun → CountedRun → Type 0
StepsTo o es s (Ok event) old new = Happens o es s event old new
StepsTo o es s (Err e) old new = Ends o s e old new

-- of these events the last one, with its number
abbrev pub IsLastOf : Network → List law.Event → Option (ℕ × Event) → Type 0
IsLastOf n es None = es ≡ []
IsLastOf n es (Some (number, event)) = (front : List law.Event) × (e : law.Event) × (es ≡ front ++ e ∷ []) × (length front ≡ number) × (event_in n e ≡ event) × (event.act.0 < acts_of n.parts)

-- a run that went on to its end: the events that came, and the last of them
pub record RunsOut (o : Opened) (out : Outcome) (c : CountedRun) : Type 0 where
  pub events : List law.Event
  pub state : State
  pub before : CountedRun
  pub stands : RunStands o events state before
  pub ends : Ends o state out.ending before c
  pub last : IsLastOf o.network events out.last

-- no event came yet, and nothing was put
pub record IsUnwritten (p : RunInProgress) : Type 0 where
  pub run : IsOpened p.run
  pub page : p.pages ≡ []

-- what is left of a report after events, by the rest of the run
abbrev pub left_after : Opened → List law.Event → Option Trajectory → List ℕ
left_after o es None = []
left_after o es (Some t) = event_lines o.network (length es) t.events ++ (ending_line o.network (length (es ++ t.events)) (ending_in o.network t.time t.ending) ++ reward_lines o.network.rewards 0 (worth_at (net_by o) (es ++ t.events) t.ending))

-- of the report all lines up to a run's state were put
abbrev pub IsUnderWay : Opened → Option (List ℕ) → Option (List ℕ) → RunInProgress → Type 0
IsUnderWay o first now c = (es : List law.Event) × (s : State) × RunStands o es s c.run × Sent first now c.pages (report_of o) (left_after o es (trajectory (net_by o) s))

-- a run has ended, and of its text all but the closing lines were put
pub record IsOver (o : Opened) (text : List ℕ) (first now : Option (List ℕ)) (c : CountedRun) (page : List ℕ) (e : Ending) : Type 0 where
  pub outcome : ending_of o ≡ Some e
  pub within : EndsIn c.flat.now e
  pub spans : length c.account.running.spans ≡ length c.flat.now.rewards
  pub put : Sent first now page text (closing c.flat.now c.account.running c.count e)

-- an activity of the network
abbrev pub IsInLast : Network → Option (ℕ × Event) → Type 0
IsInLast n None = Unit {0}
IsInLast n (Some (number, event)) = event.act.0 < acts_of n.parts

abbrev pub line_of_last : Network → Option (ℕ × Event) → List ℕ
line_of_last n None = []
line_of_last n (Some (number, event)) = event_line n number event

-- of a text a line was put, and the rest is still to come; or the sink failed
abbrev pub PutsLast : Result Unit Unwritten → Option (List ℕ) → Option (List ℕ) → List ℕ → List ℕ → List ℕ → Type 0
PutsLast (Ok done) first now page text rest = Sent first now page text rest
PutsLast (Err fault) first now page text rest = AppendsPrefix first now text

-- after a turn: the run goes on, with fewer steps to come, or has ended; or the sink failed
abbrev pub TurnedTo : Opened → Option (List ℕ) → Result (Option Ending) Unwritten → Option (List ℕ) → RunInProgress → RunInProgress → Type 0
TurnedTo o first (Ok None) now old c = IsUnderWay o first now c × (steps_left c.run.seq < steps_left old.run.seq)
TurnedTo o first (Ok (Some e)) now old c = IsOver o (report_of o) first now c.run c.pages e
TurnedTo o first (Err fault) now old c = AppendsPrefix first now (report_of o)
