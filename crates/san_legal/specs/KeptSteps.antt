-- What a step makes of a kept state: its renewal, the firing of a timer, and a completion.
use Rattle.std.specs.Prelude.{ℕ, suc, ◌+◌, nat_lt, Bool, true, false, List, [], ◌∷◌, map, Option, Some, None, slice_index, slice_set}
use Rattle.san_law.specs.Net.{Net, Row, Timer}
use Rattle.san_law.specs.Network.{Limits, Network, net_of}
use Rattle.san_law.specs.Renewal.{Due}
use Rattle.san_law.specs.State.{State, gather, opening_state, scatter, slots_of}
use Rattle.san_legal.specs.Kept.{KeptTimer, KeptRow, KeptState, kept_at, with_rows}

-- where no draw matters: the net whose draws are all 0
abbrev pub undrawn : Network → Limits → Net
undrawn network limits = net_of (λ stream number. 0) network limits

-- a kept timer as one that is due when it was set
abbrev pub timer_in : Option KeptTimer → Option Timer
timer_in None = None
timer_in (Some x) = Some (record { due = x.since; held = x.held })

abbrev pub row_in : KeptRow → Row
row_in x = record { timers = map timer_in x.timers; delays = x.delays; cases = x.cases }

-- a kept state as a state, whose timers are due when they were set
abbrev pub state_in : KeptState → State
state_in k = with_rows k (map row_in k.rows)

-- a timer that took a draw in a renewal was set then
abbrev pub set_by : ℕ → List ℕ → Option KeptTimer → Bool → Option Timer → Option KeptTimer
set_by time values x taken None = None
set_by time values x false (Some t) = x
set_by time values x true (Some t) = Some (record { since = time; values = values; held = t.held })

-- a leaf's timers, by the numbers of draws before and after
abbrev pub set_timers : ℕ → List ℕ → List (Option KeptTimer) → List ℕ → List (Option Timer) → List ℕ → List (Option KeptTimer)
set_timers time values [] ns ts ms = []
set_timers time values (x ∷ xs) [] ts ms = []
set_timers time values (x ∷ xs) (n ∷ ns) [] ms = []
set_timers time values (x ∷ xs) (n ∷ ns) (t ∷ ts) [] = []
set_timers time values (x ∷ xs) (n ∷ ns) (t ∷ ts) (m ∷ ms) = set_by time values x (nat_lt n m) t ∷ set_timers time values xs ns ts ms

abbrev pub set_row : ℕ → List ℕ → KeptRow → Row → KeptRow
set_row time values x r = record { timers = set_timers time values x.timers x.delays r.timers r.delays; delays = r.delays; cases = r.cases }

-- all leaves, from a number on
abbrev pub set_rows : Net → ℕ → List ℕ → ℕ → List KeptRow → List Row → List KeptRow
set_rows net time marking j [] rows = []
set_rows net time marking j (x ∷ xs) [] = []
set_rows net time marking j (x ∷ xs) (r ∷ rows) = set_row time (gather (slots_of net j) marking) x r ∷ set_rows net time marking (suc j) xs rows

-- what is kept after a renewal that gave these rows
abbrev pub kept_renewed : Net → KeptState → List Row → List KeptRow
kept_renewed net k rows = set_rows net k.time k.marking 0 k.rows rows

-- without an activity's timer
abbrev pub kept_without : KeptRow → ℕ → KeptRow
kept_without x i = record { timers = slice_set x.timers i None; delays = x.delays; cases = x.cases }

-- a timer fires at the stable marking: the others stay as they are, and it is the new bound
abbrev pub kept_fired : KeptState → List KeptRow → Due → KeptState
kept_fired k rows d = record { time = d.time; marking = k.marking; stable = k.marking; rows = slice_set rows d.leaf (kept_without (kept_at rows d.leaf) d.act); burst = 0; last = k.last; count = k.count; leaf = d.leaf; act = d.act }

-- one case draw more is taken
abbrev pub kept_case : KeptRow → ℕ → KeptRow
kept_case x i = record { timers = x.timers; delays = x.delays; cases = slice_set x.cases i (slice_index x.cases i + 1) }

-- a completion of a leaf's activity leaves these values, and all timers
abbrev pub kept_completed : Net → KeptState → ℕ → ℕ → ℕ → List ℕ → KeptState
kept_completed net k burst j i values = record { time = k.time; marking = scatter (slots_of net j) values k.marking; stable = k.stable; rows = slice_set k.rows j (kept_case (kept_at k.rows j) i); burst = burst; last = Some j; count = k.count + 1; leaf = k.leaf; act = k.act }

-- a row without timers
abbrev pub kept_bare : Row → KeptRow
kept_bare r = record { timers = map (λ t. None) r.timers; delays = r.delays; cases = r.cases }

-- before the first step; no timer is due at 0, so that the bound excludes none
abbrev pub kept_opening : Net → KeptState
kept_opening net = record { time = 0; marking = net.initial; stable = net.initial; rows = map kept_bare (opening_state net).rows; burst = 0; last = None; count = 0; leaf = 0; act = 0 }
