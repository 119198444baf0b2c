-- Free runs are judged by what is kept of them.
use Rattle.std.specs.Prelude.{ℕ, ◌≡◌, ◌↔◌, List, Some}
use Rattle.san_law.specs.Network.{Limits, Network, net_of}
use Rattle.san_law.specs.State.{State, opening_state}
use Rattle.san_law.specs.Step.{Event}
use Rattle.san_law.specs.Trajectory.{Runs, Trajectory, followed_by, trajectory}
use Rattle.san_legal.specs.Draws.{AreDraws}
use Rattle.san_legal.specs.Kept.{StateAgrees, KeptState}
use Rattle.san_legal.specs.KeptSteps.{kept_opening, undrawn}
use Rattle.san_legal.specs.Legal.{MayFollow}
use Rattle.san_legal.specs.Endings.{MayEnd}

-- with some draws a run has these events, and comes to this state
pub record IsReached (network : Network) (limits : Limits) (es : List Event) (s : State) : Type 0 where
  pub draw : ℕ → ℕ → ℕ
  pub words : AreDraws draw
  pub runs : Runs (net_of draw network limits) (opening_state (net_of draw network limits)) es s

-- with some draws this is the whole run
pub record IsTrajectory (network : Network) (limits : Limits) (t : Trajectory) : Type 0 where
  pub draw : ℕ → ℕ → ℕ
  pub words : AreDraws draw
  pub is : trajectory (net_of draw network limits) (opening_state (net_of draw network limits)) ≡ Some t

-- events may come from the opening on, and this is kept after them
abbrev pub IsKept : Network → Limits → List Event → KeptState → Type 0
IsKept network limits es k = MayFollow network limits (kept_opening (undrawn network limits)) es k

-- the states that some draws reach are those that agree with what is kept, each timer independently with one of its due times
abbrev pub KeptStatesAreThoseOfRuns : Network → Type 0
KeptStatesAreThoseOfRuns network = (limits : Limits) (es : List Event) (k : KeptState) → IsKept network limits es k
    → (s : State) → IsReached network limits es s ↔ StateAgrees network k s

-- events may come exactly where some draws give them
abbrev pub LegalEventsAreThoseOfRuns : Network → Type 0
LegalEventsAreThoseOfRuns network = (limits : Limits) (es : List Event)
    → ((k : KeptState) × IsKept network limits es k) ↔ ((s : State) × IsReached network limits es s)

-- with some draws a whole run begins with these events
pub record BeginsRun (network : Network) (limits : Limits) (es : List Event) : Type 0 where
  pub draw : ℕ → ℕ → ℕ
  pub words : AreDraws draw
  pub rest : Trajectory
  pub is : trajectory (net_of draw network limits) (opening_state (net_of draw network limits)) ≡ Some (followed_by es rest)

-- events may come exactly where some whole run begins with them: each run goes on to an ending
abbrev pub LegalEventsBeginRuns : Network → Type 0
LegalEventsBeginRuns network = (limits : Limits) (es : List Event)
    → ((k : KeptState) × IsKept network limits es k) ↔ BeginsRun network limits es

-- what is kept after events, and with it whether an ending may come
pub record IsLegal (network : Network) (limits : Limits) (t : Trajectory) : Type 0 where
  pub kept : KeptState
  pub events : IsKept network limits t.events kept
  pub ending : MayEnd network limits kept t.time t.ending

-- a whole run is legal exactly where it is that of some draws
abbrev pub LegalRunsAreThoseOfDraws : Network → Type 0
LegalRunsAreThoseOfDraws network = (limits : Limits) (t : Trajectory) → IsLegal network limits t ↔ IsTrajectory network limits t

-- there is one kept state after events
abbrev pub KeptStateIsOne : Network → Type 0
KeptStateIsOne network = (limits : Limits) (es : List Event) (k l : KeptState) → IsKept network limits es k → IsKept network limits es l → k ≡ l
