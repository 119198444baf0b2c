-- A run: one step after another.
use Rattle.std.specs.Prelude.{ℕ, zero, suc, ◌-◌, ◌≡◌, List, [], ◌∷◌, ◌++◌, Option, Some, None}
use Rattle.san_law.specs.Net.{Net}
use Rattle.san_law.specs.State.{State}
use Rattle.san_law.specs.Step.{Ending, Event, Happened, Over, Stepped, step}

-- steps from a state with just these events, to another
abbrev pub Runs : Net → State → List Event → State → Type 0
Runs net s [] t = s ≡ t
Runs net s (e ∷ es) t = ((step net s).0 ≡ Happened e) × Runs net (step net s).1 es t

-- the events in order, and when and how the run ends
pub record Trajectory : Type 0 where
  pub events : List Event
  pub time : ℕ
  pub ending : Ending

-- events, and then the rest of a run
abbrev pub followed_by : List Event → Trajectory → Trajectory
followed_by es t = record { events = es ++ t.events; time = t.time; ending = t.ending }

-- one event more
abbrev pub ran_on : Event → Option Trajectory → Option Trajectory
ran_on e None = None
ran_on e (Some t) = Some (record { events = e ∷ t.events; time = t.time; ending = t.ending })

-- a step, and then the others
abbrev pub ran_by : Stepped → (State → Option Trajectory) → State → Option Trajectory
ran_by (Over time e) go s = Some (record { events = []; time = time; ending = e })
ran_by (Happened e) go s = ran_on e (go s)

-- at most so many steps, where they come to an ending
abbrev pub run : Net → ℕ → State → Option Trajectory
run net zero s = None
run net (suc n) s = ran_by (step net s).0 (run net n) (step net s).1

-- the whole run from a state: no run has more events than the limit, so these steps suffice
abbrev pub trajectory : Net → State → Option Trajectory
trajectory net s = run net (suc (net.limit - s.count)) s
