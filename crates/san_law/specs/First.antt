-- Which timer is the first of all.
use Rattle.std.specs.Prelude.{ℕ, ◌<◌, ◌≤◌, ◌≡◌, ◌⊎◌, List, map, Option, Some, None, slice_index_or}
use Rattle.san_law.specs.Net.{Row, Timer, least_timer, no_row}
use Rattle.san_law.specs.Renewal.{Due, least_from}

-- when a timer is due
abbrev pub due_of : Option Timer → Option ℕ
due_of None = None
due_of (Some t) = Some t.due

-- the timer of a leaf's activity
abbrev pub timer_at : List Row → ℕ → ℕ → Option Timer
timer_at rows j k = slice_index_or (slice_index_or rows j no_row).timers k None

-- a timer is before another by due time, then leaf, then activity
abbrev pub BeforeAll : Due → ℕ → ℕ → Option Timer → Type 0
BeforeAll d j k None = Unit {0}
BeforeAll d j k (Some t) = (d.time < t.due) ⊎ ((d.time ≡ t.due) × ((d.leaf < j) ⊎ ((d.leaf ≡ j) × (d.act ≤ k))))

-- the least of the leaves' least timers is one of all timers, and before all of them
abbrev pub FirstIsBeforeAll : List Row → Type 0
FirstIsBeforeAll rows = (d : Due) → least_from 0 (map least_timer rows) ≡ Some d → (due_of (timer_at rows d.leaf d.act) ≡ Some d.time) × ((j k : ℕ) → BeforeAll d j k (timer_at rows j k))

-- where there is none, no activity has a timer
abbrev pub NoneIsFirst : List Row → Type 0
NoneIsFirst rows = least_from 0 (map least_timer rows) ≡ None → (j k : ℕ) → timer_at rows j k ≡ None
