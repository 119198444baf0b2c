-- Runs look at no draw but those that they take.
use Rattle.std.specs.Prelude.{ℕ, ◌≡◌, List, length, Ok}
use Rattle.san_law.specs.Activity.{Part, completed}
use Rattle.san_law.specs.Clocks.{renewed_row}
use Rattle.san_law.specs.Net.{Done, Fresh, Local, Row}
use Rattle.san_law.specs.Network.{Limits, Network, net_of, part_at}
use Rattle.san_law.specs.State.{State, row_of}
use Rattle.san_law.specs.Step.{Event, Happened, step}
use Rattle.san_law.specs.Trajectory.{Runs}
use Rattle.san_legal.specs.Draws.{AgreeNext, AgreeOn, AgreeTaken}

-- a row has a timer and two numbers for each activity
pub record IsSizedRow (part : Part) (r : Row) : Type 0 where
  pub timers : length r.timers ≡ length part.activities
  pub delays : length r.delays ≡ length part.activities
  pub cases : length r.cases ≡ length part.activities

-- so have all rows of a state
abbrev pub IsSized : Network → State → Type 0
IsSized network s = (j : ℕ) → IsSizedRow (part_at network j) (row_of s j)

-- a leaf's renewal is the same with draws that are the same where it took them
abbrev pub RenewalLooksAtTaken : Part → Type 0
RenewalLooksAtTaken part = (draw other : ℕ → ℕ → ℕ) (time : ℕ) (seen : List ℕ) (l : Local) (r : Row)
    → renewed_row draw part time seen l ≡ Fresh r → AgreeOn draw other part l.row r → renewed_row other part time seen l ≡ Fresh r

-- so is a completion
abbrev pub CompletionLooksAtTaken : Part → Type 0
CompletionLooksAtTaken part = (draw other : ℕ → ℕ → ℕ) (k : ℕ) (l : Local) (d : Done)
    → IsSizedRow part l.row → completed draw part k l ≡ Ok d → AgreeOn draw other part l.row d.left.row → completed other part k l ≡ Ok d

-- so is a step with an event
abbrev pub StepLooksAtTaken : Network → Type 0
StepLooksAtTaken network = (limits : Limits) (draw other : ℕ → ℕ → ℕ) (s : State) (e : Event) → IsSized network s
    → (step (net_of draw network limits) s).0 ≡ Happened e → AgreeTaken network draw other s (step (net_of draw network limits) s).1
    → step (net_of other network limits) s ≡ step (net_of draw network limits) s

-- so is a run, whose states keep their sizes
abbrev pub RunLooksAtTaken : Network → Type 0
RunLooksAtTaken network = (limits : Limits) (draw other : ℕ → ℕ → ℕ) (s t : State) (es : List Event) → IsSized network s
    → Runs (net_of draw network limits) s es t → AgreeTaken network draw other s t
    → Runs (net_of other network limits) s es t

-- and whatever a step comes to, it looks at no draw but the next of each activity
abbrev pub StepLooksAtNext : Network → Type 0
StepLooksAtNext network = (limits : Limits) (draw other : ℕ → ℕ → ℕ) (s : State)
    → ((j : ℕ) → AgreeNext draw other (part_at network j) (row_of s j))
    → step (net_of other network limits) s ≡ step (net_of draw network limits) s
