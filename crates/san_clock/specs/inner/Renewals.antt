-- The renewal of a leaf's clocks, activity by activity.
use Rattle.std.specs.Prelude.{ℕ, ◌+◌, ◌*◌, List, [], Option, Result, Ok, Err, All, IsTrue}
use Rattle.san_base.specs.declared.ending.Trap.{Trap}
use Rattle.san_law.specs.Clocks as law
use Rattle.san_law.specs.Net as net
use Rattle.san_net.specs.Accepted.{IsAcceptedKind}
use Rattle.san_net.specs.Below.{activity_below}
use Rattle.san_net.specs.Instants.{Named}
use Rattle.san_net.specs.Leaf.{activities_from}

-- each activity is accepted and names cells below a number
pub record IsPlaced (cells : ℕ) (a : Named) : Type 0 where
  pub kind : IsAcceptedKind a.1.kind
  pub places : IsTrue (activity_below a.1 cells)

abbrev pub ArePlaced : ℕ → List Named → Type 0
ArePlaced cells acts = All (IsPlaced cells) acts

-- the clocks, or the first activity that traps
abbrev pub clocks_by : Result (Unit {0}) (ℕ × Trap) → List (Option net.Timer) → List ℕ → law.Clocks
clocks_by (Ok done) timers delays = law.AllClocks timers delays
clocks_by (Err fault) timers delays = law.BadClock fault.0 fault.1

-- the activities from number k on, which draw from their own streams
abbrev pub renewed_named : (ℕ → ℕ → ℕ) → ℕ → ℕ → List ℕ → List ℕ → ℕ → List Named → List (Option net.Timer) → List ℕ → law.Clocks
renewed_named draw first time seen values k acts timers delays =
    law.renewed_acts (λ j. draw (2 * (first + j))) time seen values k (activities_from [] k acts) timers delays
