-- What the events of a run from its opening on say of its states.
use Rattle.std.specs.Prelude.{ℕ, ◌≡◌, ◌≤◌, List, Ok}
use Rattle.san_base.specs.declared.ending.Event.{Event}
use Rattle.san_law.specs.Activity.{activity_of}
use Rattle.san_law.specs.Net.{Impulse, Net}
use Rattle.san_law.specs.Network.{Limits, part_at}
use Rattle.san_law.specs.State.{State, gather, opening_state, slots_of}
use Rattle.san_law.specs.Step as law
use Rattle.san_law.specs.Trajectory.{Runs}
use Rattle.san_net.specs.Laid.{IsNetwork}
use Rattle.san_net.specs.Network.{Network, net_of, network_in}
use Rattle.san_seq.specs.FlatRun.{On, Run, after_step, net_in, step_of}
use Rattle.san_net.specs.Runs.{event_in}

-- an event that a step tells is the law's, and leaves the law's state
pub record IsTheLaws (r : Run) (s : State) (e : Event) : Type 0 where
  pub event : law.Event
  pub happens : (law.step (net_in r) s).0 ≡ law.Happened event
  pub answered : event_in r.network event ≡ e
  pub left : (after_step r).run_phase ≡ On (law.step (net_in r) s).1

abbrev pub EventsAreTheLaws : Run → Type 0
EventsAreTheLaws r = (s : State) (e : Event) → r.run_phase ≡ On s → (step_of r).0 ≡ Ok e → IsTheLaws r s e

-- the impulses of a leaf's activity in a marking
abbrev pub impulses_at : Network → ℕ → ℕ → List ℕ → List Impulse
impulses_at n j k values = (activity_of (part_at (network_in n) j) k).impulses values

-- an event comes at the time of the state that it leaves, not before the last and not after the horizon; its impulses are those of its activity in the marking that it reaches
pub record IsInTime (n : Network) (net : Net) (s : State) (e : law.Event) : Type 0 where
  pub later : s.time ≤ e.time
  pub within : e.time ≤ net.horizon
  pub present : (law.step net s).1.time ≡ e.time
  pub impulses : e.impulses ≡ impulses_at n e.leaf e.act (gather (slots_of net e.leaf) (law.step net s).1.marking)

abbrev pub EventsAreInTime : Network → Type 0
EventsAreInTime n = IsNetwork n → (draw : ℕ → ℕ → ℕ) (limits : Limits) (es : List law.Event) (s : State) (e : law.Event)
    → Runs (net_of n draw limits) (opening_state (net_of n draw limits)) es s → (law.step (net_of n draw limits) s).0 ≡ law.Happened e → IsInTime n (net_of n draw limits) s e
