-- Which timer is the first of a leaf's, and which leaf's is the first.
use Rattle.std.specs.Prelude.{ℕ, ◌<◌, ◌≤◌, ◌≡◌, ◌⊎◌, List, Option, Some, None, slice_index_or}
use Rattle.san_law.specs.First.{due_of}
use Rattle.san_law.specs.Net.{Row, Timer, least_timer}
use Rattle.san_law.specs.Renewal.{Due, least_from}

-- no timer is due before the least, and of those due at its time its leaf is the first
abbrev pub IsBefore : Due → ℕ → ℕ → Type 0
IsBefore d time leaf = (d.time < time) ⊎ ((d.time ≡ time) × (d.leaf ≤ leaf))

-- a leaf without a timer comes after
abbrev pub Before : Due → ℕ → Option (ℕ × ℕ) → Type 0
Before d leaf None = Unit {0}
Before d leaf (Some x) = IsBefore d x.0 leaf

-- the least is one of the dues, and before all
abbrev pub LeastIsBefore : List (Option (ℕ × ℕ)) → Type 0
LeastIsBefore dues = (d : Due) → least_from 0 dues ≡ Some d → (slice_index_or dues d.leaf None ≡ Some (d.time, d.act)) × ((i : ℕ) → Before d i (slice_index_or dues i None))

-- where there is no least, no leaf has a timer
abbrev pub NoneIsDue : List (Option (ℕ × ℕ)) → Type 0
NoneIsDue dues = least_from 0 dues ≡ None → (i : ℕ) → slice_index_or dues i None ≡ None

-- a row's least timer is one of its timers; none is due before it, and of those due at its time its activity is the first
abbrev pub BeforeTimer : ℕ → ℕ → ℕ → Option Timer → Type 0
BeforeTimer due act i None = Unit {0}
BeforeTimer due act i (Some t) = (due < t.due) ⊎ ((due ≡ t.due) × (act ≤ i))

-- the least timer of a row is the first
abbrev pub LeastTimerIsFirst : Row → Type 0
LeastTimerIsFirst r = (due act : ℕ) → least_timer r ≡ Some (due, act) → (due_of (slice_index_or r.timers act None) ≡ Some due) × ((i : ℕ) → BeforeTimer due act i (slice_index_or r.timers i None))

-- where a row has no least timer, it has none
abbrev pub NoTimerIsLeast : Row → Type 0
NoTimerIsLeast r = least_timer r ≡ None → (i : ℕ) → slice_index_or r.timers i None ≡ None
