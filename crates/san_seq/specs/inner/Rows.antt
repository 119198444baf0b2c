-- The rows of a network's leaves, and their renewal.
use Rattle.std.specs.Prelude.{ℕ, ◌≡◌, ◌≤◌, List, length, Some, Result, Ok, Err, All, slice_get, slice_index_or}
use Rattle.san_base.specs.declared.ending.Trap.{Trap}
use Rattle.san_base.specs.declared.numbers.LeafId.{LeafId}
use Rattle.san_law.specs.Net.{Row, no_row}
use Rattle.san_law.specs.Renewal.{AllFresh, FaultAt, Renewal}
use Rattle.san_net.specs.declared.part.Part.{Part}

-- a leaf's row
abbrev pub row_at : List Row → ℕ → Row
row_at rows j = slice_index_or rows j no_row

-- a row has a timer and a number of draws for each activity
pub record IsRowOf (p : Part) (r : Row) : Type 0 where
  pub timers : length r.timers ≡ length p.atomic.acts
  pub delays : length r.delays ≡ length p.atomic.acts
  pub cases : length r.cases ≡ length p.atomic.acts

-- a row for each leaf
pub record AreRows (parts : List Part) (rows : List Row) : Type 0 where
  pub each : length rows ≡ length parts
  pub fit : (j : ℕ) (p : Part) → slice_get parts j ≡ Some p → IsRowOf p (row_at rows j)

-- no draw's number is greater
abbrev pub AreDrawn : ℕ → List Row → Type 0
AreDrawn most rows = (j : ℕ) → All (λ n. n ≤ most) (row_at rows j).delays

-- rows of as many activities, with the same case draws
pub record IsLike (now old : Row) : Type 0 where
  pub timers : length now.timers ≡ length old.timers
  pub delays : length now.delays ≡ length old.delays
  pub cases : now.cases ≡ old.cases

-- the renewed rows, or the first activity that traps
abbrev pub renewal_by : Result (Unit {0}) (LeafId × ℕ × Trap) → List Row → Renewal
renewal_by (Ok done) rows = AllFresh rows
renewal_by (Err fault) rows = FaultAt fault.0.0 fault.1 fault.2
