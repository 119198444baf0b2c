-- A run of a network: the law's steps of its net, one after another.
use Rattle.std.specs.Prelude.{ℕ, suc, ◌+◌, ◌-◌, ◌≤◌, ◌≡◌, ◌++◌, List, [], ◌∷◌, length, Option, Some, None, Result, Ok, Err}
use Rattle.std.specs.Option.{option_map}
use Rattle.san_base.specs.declared.ending.Ending.{Ending}
use Rattle.san_base.specs.declared.ending.Event.{Event}
use Rattle.san_base.specs.declared.limits.Limits.{Limits}
use Rattle.san_draw.specs.Key.{draw_of}
use Rattle.san_law.specs.Net.{Net}
use Rattle.san_law.specs.Next as next
use Rattle.san_law.specs.State.{State, opening_state}
use Rattle.san_law.specs.Step as law
use Rattle.san_law.specs.Trajectory as whole
use Rattle.san_net.specs.Network.{Network, net_of}
use Rattle.san_net.specs.Runs.{ending_in, limits_in}
use Rattle.san_seq.specs.Outcomes.{event_or_ending, trajectory_in}
use Rattle.san_seq.specs.declared.steps.Stable.{Stable}
use Rattle.san_seq.specs.declared.steps.Trajectory.{Trajectory}

-- a run goes on from a state, or is over: with the marking that it left, and its ending
pub data RunPhase : Type 0 where
  On : (state : State) → RunPhase
  Done : (marking : List ℕ) (ending : Ending) → RunPhase

-- a state, and an ending if the run is over
abbrev pub run_phase_of : State → Option Ending → RunPhase
run_phase_of s None = On s
run_phase_of s (Some e) = Done s.marking e

-- a run of a network with a seed and limits
pub record Run : Type 0 where
  pub network : Network
  pub seed : ℕ
  pub limits : Limits
  pub run_phase : RunPhase

-- the net that the law steps: the draws are the seed's
abbrev pub net_in : Run → Net
net_in r = net_of r.network (draw_of r.seed) (limits_in r.limits)

-- what a step of the law leaves of a run
abbrev pub left_by : Network → law.Stepped × State → RunPhase
left_by n (law.Happened e, s) = On s
left_by n (law.Over time e, s) = Done s.marking (ending_in n time e)

-- a step answers the law's event or ending; once the run is over, the same again
abbrev pub stepped : Network → Net → RunPhase → Result Event Ending × RunPhase
stepped n net (On s) = (event_or_ending n (law.step net s).0, left_by n (law.step net s))
stepped n net (Done marking e) = (Err e, Done marking e)

abbrev pub step_of : Run → Result Event Ending × RunPhase
step_of r = stepped r.network (net_in r) r.run_phase

-- the run after a step
abbrev pub after_step : Run → Run
after_step r = record { network = r.network; seed = r.seed; limits = r.limits; run_phase = (step_of r).1 }

-- the marking of a run
abbrev pub marking_of : RunPhase → List ℕ
marking_of (On s) = s.marking
marking_of (Done marking e) = marking

-- the events from here on, and the ending: the law's trajectory
abbrev pub rest_by : Network → Net → RunPhase → Option Trajectory
rest_by n net (On s) = option_map (trajectory_in n) (whole.trajectory net s)
rest_by n net (Done marking e) = Some (record { events = []; ending = e })

abbrev pub rest_of : Run → Option Trajectory
rest_of r = rest_by r.network (net_in r) r.run_phase

-- events, and then the rest
abbrev pub ahead : List Event → Option Trajectory → Option Trajectory
ahead events None = None
ahead events (Some t) = Some (record { events = events ++ t.events; ending = t.ending })

-- how many steps are left at most until the run is over
abbrev pub steps_at : ℕ → RunPhase → ℕ
steps_at limit (On s) = suc (limit - s.count)
steps_at limit (Done marking e) = 0

abbrev pub steps_left : Run → ℕ
steps_left r = steps_at r.limits.events r.run_phase

-- steps from a run that tell just these events, to another
abbrev pub Tells : Run → List Event → Run → Type 0
Tells r [] t = r ≡ t
Tells r (e ∷ es) t = ((step_of r).0 ≡ Ok e) × Tells (after_step r) es t

-- events that steps answered are the first of the trajectory, and what follows them is that of the run that they left; there are no more than the event limit leaves
pub record IsPrefix (r t : Run) (es : List Event) : Type 0 where
  pub rest : rest_of r ≡ ahead es (rest_of t)
  pub few : length es + steps_left t ≤ steps_left r

abbrev pub TellsPrefix : Run → Type 0
TellsPrefix r = (t : Run) (es : List Event) → Tells r es t → IsPrefix r t es

-- every run comes to an ending
abbrev pub HasRest : Run → Type 0
HasRest r = (t : Trajectory) × (rest_of r ≡ Some t)

-- the time and the number of events of a state in which no instantaneous activity is enabled or traps
abbrev pub where_stable : next.Next → State → Option Stable
where_stable next.Stable s = Some (record { time = record { 0 = s.time }; count = s.count })
where_stable n s = None

-- a run that is over is at no stable marking
abbrev pub stable_in : Net → RunPhase → Option Stable
stable_in net (On s) = where_stable (next.next_instant net s) s
stable_in net (Done marking e) = None

abbrev pub stable_of : Run → Option Stable
stable_of r = stable_in (net_in r) r.run_phase

-- the run that has not begun
abbrev pub opening : Network → ℕ → Limits → Run
opening n seed limits = record { network = n; seed = seed; limits = limits; run_phase = On (opening_state (net_of n (draw_of seed) (limits_in limits))) }
