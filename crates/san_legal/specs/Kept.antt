-- What is kept of a run's state where its draws aren't known: of each running timer when and in which values it was set, and one bound for all.
use Rattle.std.specs.Prelude.{ℕ, ◌+◌, ◌^◌, ◌<◌, ◌≡◌, ◌⊎◌, Bool, List, [], length, Option, Some, None, Ok, slice_index_or}
use Rattle.san_law.specs.Activity.{ActKind, Instant, Part, Timed, activity_of}
use Rattle.san_law.specs.Net.{Row, Timer, no_row}
use Rattle.san_law.specs.Network.{Network, part_at}
use Rattle.san_law.specs.Renewal.{Due}
use Rattle.san_law.specs.State.{State}

-- a running timer: when it was set, the leaf's values then, and whether the activation predicate held
pub record KeptTimer : Type 0 where
  pub since : ℕ
  pub values : List ℕ
  pub held : Bool

-- a leaf's running timers and the numbers of the draws that it took, by activity
pub record KeptRow : Type 0 where
  pub timers : List (Option KeptTimer)
  pub delays : List ℕ
  pub cases : List ℕ

-- a state without due times; its time is that of the last timed completion, which was of this activity of this leaf
pub record KeptState : Type 0 where
  pub time : ℕ
  pub marking : List ℕ
  pub stable : List ℕ
  pub rows : List KeptRow
  pub burst : ℕ
  pub last : Option ℕ
  pub count : ℕ
  pub leaf : ℕ
  pub act : ℕ

-- the last timed completion bounds all timers
abbrev pub bound_of : KeptState → Due
bound_of k = record { time = k.time; leaf = k.leaf; act = k.act }

-- the row of a leaf that is not there
abbrev pub no_kept : KeptRow
no_kept = record { timers = []; delays = []; cases = [] }

-- a leaf's row
abbrev pub kept_at : List KeptRow → ℕ → KeptRow
kept_at rows j = slice_index_or rows j no_kept

-- an activity's timer
abbrev pub timer_of : KeptRow → ℕ → Option KeptTimer
timer_of r i = slice_index_or r.timers i None

-- a delay that some draw gives
abbrev pub GivesDelay : ActKind → List ℕ → ℕ → Type 0
GivesDelay (Timed delay pair) values ticks = (u : ℕ) × (u < 2 ^ 64) × (delay u values ≡ Ok ticks)
GivesDelay (Instant priority) values ticks = ⊥

-- later than a bound, by time, then by leaf, then by activity
abbrev pub IsLater : Due → ℕ → ℕ → ℕ → Type 0
IsLater b j i due = (b.time < due) ⊎ ((b.time ≡ due) × ((b.leaf < j) ⊎ ((b.leaf ≡ j) × (b.act < i))))

-- a time when a leaf's timer may be due
pub record MayBeDue (b : Due) (j i : ℕ) (kind : ActKind) (x : KeptTimer) (due : ℕ) : Type 0 where
  pub ticks : ℕ
  pub given : GivesDelay kind x.values ticks
  pub is : due ≡ x.since + ticks
  pub later : IsLater b j i due

-- a timer as it is kept: its due time is one of those that it may have
abbrev pub IsOne : Due → ℕ → ℕ → ActKind → Option KeptTimer → Option Timer → Type 0
IsOne b j i kind None None = Unit {0}
IsOne b j i kind None (Some t) = ⊥
IsOne b j i kind (Some x) None = ⊥
IsOne b j i kind (Some x) (Some t) = (t.held ≡ x.held) × MayBeDue b j i kind x t.due

-- a row as it is kept, each timer independently of the others
pub record RowAgrees (b : Due) (j : ℕ) (part : Part) (x : KeptRow) (r : Row) : Type 0 where
  pub long : length r.timers ≡ length x.timers
  pub timers : (i : ℕ) → IsOne b j i (activity_of part i).kind (timer_of x i) (slice_index_or r.timers i None)
  pub delays : r.delays ≡ x.delays
  pub cases : r.cases ≡ x.cases

-- all rows
pub record RowsAgree (network : Network) (b : Due) (xs : List KeptRow) (rows : List Row) : Type 0 where
  pub long : length rows ≡ length xs
  pub each : (j : ℕ) → RowAgrees b j (part_at network j) (kept_at xs j) (slice_index_or rows j no_row)

-- the state with these rows
abbrev pub with_rows : KeptState → List Row → State
with_rows k rows = record { time = k.time; marking = k.marking; stable = k.stable; rows = rows; burst = k.burst; last = k.last; count = k.count }

-- a state that agrees with what is kept
pub record StateAgrees (network : Network) (k : KeptState) (s : State) : Type 0 where
  pub same : s ≡ with_rows k s.rows
  pub rows : RowsAgree network (bound_of k) k.rows s.rows

-- a timer that runs may be due at some time
abbrev pub HasOne : Due → ℕ → ℕ → ActKind → Option KeptTimer → Type 0
HasOne b j i kind None = Unit {0}
HasOne b j i kind (Some x) = (due : ℕ) × MayBeDue b j i kind x due

-- so may each timer
abbrev pub HaveSome : Network → Due → List KeptRow → Type 0
HaveSome network b xs = (j i : ℕ) → HasOne b j i (activity_of (part_at network j) i).kind (timer_of (kept_at xs j) i)
