-- One step of a run.
use Rattle.std.specs.Prelude.{ℕ, ◌+◌, nat_lt, nat_le, List, map, Option, Some, None, Result, Ok, Err, if◌then◌else◌, slice_set, slice_index_or}
use Rattle.san_base.specs.declared.ending.Trap.{Trap}
use Rattle.san_law.specs.Net.{Done, Impulse, Local, Net, Row, least_timer, no_row, without_timer}
use Rattle.san_law.specs.State.{State, local_of, scatter, slots_of}
use Rattle.san_law.specs.Next.{Completes, Next, Stable, TrapsAt, next_instant}
use Rattle.san_law.specs.Renewal.{AllFresh, Due, FaultAt, Renewal, least_from, renewed_from}

-- how a run ends: at the horizon, by the limit of the burst or of the events, or by a trap of an activity
pub data Ending : Type 0 where
  End : Ending
  Unstable : Ending
  Events : Ending
  Trapped : (leaf act : ℕ) (trap : Trap) → Ending

-- a completion of a leaf's activity: its case, and its impulses
pub record Event : Type 0 where
  pub time : ℕ
  pub leaf : ℕ
  pub act : ℕ
  pub case : ℕ
  pub impulses : List Impulse

-- the event of a completion
abbrev pub event_of : ℕ → ℕ → ℕ → Done → Event
event_of time j k d = record { time = time; leaf = j; act = k; case = d.case; impulses = d.impulses }

-- what a step comes to: an event, or the end of the run
pub data Stepped : Type 0 where
  Happened : (event : Event) → Stepped
  Over : (time : ℕ) (ending : Ending) → Stepped

-- what the event limit says of one more
abbrev pub events_left : ℕ → ℕ → Option Ending
events_left limit count = if nat_lt count limit then None else Some Events

-- what it says in a network
abbrev pub count_limit : Net → ℕ → Option Ending
count_limit net count = events_left net.limit count

-- which limit stops a further completion: of the burst first, then of the events
abbrev pub limit_by : ℕ → ℕ → ℕ → ℕ → Option Ending
limit_by most limit burst count = if nat_lt burst most then events_left limit count else Some Unstable

-- what both limits say in a network
abbrev pub limit_at : Net → ℕ → ℕ → Option Ending
limit_at net burst count = limit_by net.burst net.limit burst count

-- a state with a leaf's values and row after one more of its completions
abbrev pub with_local : Net → State → ℕ → ℕ → Local → State
with_local net s burst j l = record { time = s.time; marking = scatter (slots_of net j) l.values s.marking; stable = s.stable; rows = slice_set s.rows j l.row; burst = burst; last = Some j; count = s.count + 1 }

-- a completion is an event, unless it traps
abbrev pub complete : Net → State → ℕ → ℕ → ℕ → Result Done Trap → Stepped × State
complete net s burst j k (Err trap) = (Over s.time (Trapped j k trap), s)
complete net s burst j k (Ok d) = (Happened (event_of s.time j k d), with_local net s burst j d.left)

-- where a limit came the run is over
abbrev pub unless_over : State → Option Ending → Stepped × State → Stepped × State
unless_over s (Some e) go = (Over s.time e, s)
unless_over s None go = go

-- the renewed state at the time of a timer, without it; its marking is the last stable one, and the burst begins anew
abbrev pub fired : Net → State → List Row → Due → State
fired net s rows d = record { time = d.time; marking = s.marking; stable = s.marking; rows = slice_set rows d.leaf (without_timer (slice_index_or rows d.leaf no_row) d.act); burst = 0; last = s.last; count = s.count }

-- a fired activity completes within the event limit, with a burst of 0
abbrev pub fire : Net → State → ℕ → ℕ → Stepped × State
fire net s j k = unless_over s (count_limit net s.count) (complete net s 0 j k (net.done j k (local_of net s j)))

-- the timer completes where it is due by the horizon, else the run ends there
abbrev pub at_due : Net → State → List Row → Option Due → Stepped × State
at_due net s rows None = (Over net.horizon End, s)
at_due net s rows (Some d) = if nat_le d.time net.horizon then fire net (fired net s rows d) d.leaf d.act else (Over net.horizon End, s)

-- where the renewal traps the run is over
abbrev pub at_rest : Net → State → Renewal → Stepped × State
at_rest net s (FaultAt j k trap) = (Over s.time (Trapped j k trap), s)
at_rest net s (AllFresh rows) = at_due net s rows (least_from 0 (map least_timer rows))

-- an instantaneous activity completes within both limits
abbrev pub at_next : Net → State → Next → Stepped × State
at_next net s Stable = at_rest net s (renewed_from net s 0 s.rows)
at_next net s (TrapsAt j k trap) = (Over s.time (Trapped j k trap), s)
at_next net s (Completes j k) = unless_over s (limit_at net s.burst s.count) (complete net s (s.burst + 1) j k (net.done j k (local_of net s j)))

-- the next instantaneous activity completes; where there is none, the timers are renewed and the one that is due first completes
unfoldable pub step : Net → State → Stepped × State
step net s = at_next net s (next_instant net s)
