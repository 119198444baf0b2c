-- What a reward is worth over a run: a sum over ticks and events.
use Rattle.std.specs.Prelude.{ℕ, zero, suc, ◌+◌, ◌-◌, ℤ, pos, ◌+ℤ◌, nat_eq, nat_lt, nat_le, ◌&&◌, Bool, false, List, [], ◌∷◌, map, Some, None, slice_index_or, if◌then◌else◌}
use Rattle.san_law.specs.Net.{Impulse, Net, Rated, Slot, Span}
use Rattle.san_law.specs.State.{State, gather, place_of}
use Rattle.san_law.specs.Step.{Event, step}

-- a sum with a fault in it is one
abbrev pub plus : Rated → Rated → Rated
plus None b = None
plus (Some a) None = None
plus (Some a) (Some b) = Some (a +ℤ b)

-- the empty sum
abbrev pub zero_sum : Rated
zero_sum = Some (pos 0)

-- a sum over so many ticks from one on
abbrev pub sum_ticks : (ℕ → Rated) → ℕ → ℕ → Rated
sum_ticks f a zero = zero_sum
sum_ticks f a (suc n) = plus (f a) (sum_ticks f (suc a) n)

-- the interval of a reward that is not there
abbrev pub no_span : Span
no_span = record { from = 0; to = 0; mean = false }

-- a reward's interval
abbrev pub span_of : Net → ℕ → Span
span_of net r = slice_index_or net.spans r no_span

-- the interval is half open
abbrev pub is_within : Span → ℕ → Bool
is_within s t = nat_le s.from t && nat_lt t s.to

-- all leaves' rates in a marking
abbrev pub rates_from : Net → ℕ → List (List Slot) → List ℕ → List (List Rated)
rates_from net i [] m = []
rates_from net i (p ∷ ps) m = net.rates i (gather (map place_of p) m) ∷ rates_from net (suc i) ps m

-- the rates of one leaf that are of a reward
abbrev pub leaf_sum : ℕ → List ℕ → List Rated → Rated
leaf_sum r [] ws = zero_sum
leaf_sum r (q ∷ qs) [] = zero_sum
leaf_sum r (q ∷ qs) (w ∷ ws) = plus (if nat_eq q r then w else zero_sum) (leaf_sum r qs ws)

-- and of all leaves, from a number on
abbrev pub rates_sum : Net → ℕ → ℕ → List (List Rated) → Rated
rates_sum net r i [] = zero_sum
rates_sum net r i (ws ∷ rest) = plus (leaf_sum r (net.terms i) ws) (rates_sum net r (suc i) rest)

-- what a tick adds to a reward at these rates
abbrev pub tick_sum : Net → ℕ → ℕ → List (List Rated) → Rated
tick_sum net r t rates = if is_within (span_of net r) t then rates_sum net r 0 rates else zero_sum

-- what an event's impulses add
abbrev pub impulses_sum : ℕ → List Impulse → Rated
impulses_sum r [] = zero_sum
impulses_sum r (x ∷ xs) = plus (if nat_eq x.reward r then x.rated else zero_sum) (impulses_sum r xs)

-- what an event adds, where its time is within
abbrev pub event_sum : Net → ℕ → Event → Rated
event_sum net r e = if is_within (span_of net r) e.time then impulses_sum r e.impulses else zero_sum

-- what all events add
abbrev pub events_sum : Net → ℕ → List Event → Rated
events_sum net r [] = zero_sum
events_sum net r (e ∷ es) = plus (event_sum net r e) (events_sum net r es)

-- the marking at the end of a tick: after the last event by then
abbrev pub marked : Net → State → List Event → ℕ → List ℕ
marked net s [] t = s.marking
marked net s (e ∷ es) t = if nat_le e.time t then marked net (step net s).1 es t else s.marking

-- the rate terms at the end of a tick of a run
abbrev pub marked_sum : Net → ℕ → State → List Event → ℕ → Rated
marked_sum net r opening es t = rates_sum net r 0 (rates_from net 0 net.parts (marked net opening es t))

-- what a tick of a run adds to a reward
abbrev pub ticked : Net → ℕ → State → List Event → ℕ → Rated
ticked net r opening es t = tick_sum net r t (rates_from net 0 net.parts (marked net opening es t))

-- the ticks before a time, and the impulses of the events
abbrev pub sum_before : Net → ℕ → State → List Event → ℕ → Rated
sum_before net r opening es time = plus (sum_ticks (ticked net r opening es) 0 time) (events_sum net r es)

-- the rate terms at the ends of the ticks from `from` to `to - 1`, and the impulse terms of the events in that interval
abbrev pub reward_sum : Net → ℕ → State → List Event → Rated
reward_sum net r opening es = let s = span_of net r in plus (sum_ticks (marked_sum net r opening es) s.from (s.to - s.from)) (events_sum net r es)

-- what is printed for a reward of a run that came to its horizon
pub data Worth : Type 0 where
  Beyond : Worth
  Faulted : Worth
  Sum : (sum : ℤ) → Worth
  Mean : (sum : ℤ) (ticks : ℕ) → Worth

-- a sum, or the sum with the length of the interval
abbrev pub sum_worth : Span → Rated → Worth
sum_worth s None = Faulted
sum_worth s (Some sum) = if s.mean then Mean sum (s.to - s.from) else Sum sum

-- an interval that passes the horizon has no worth
abbrev pub worth_by : ℕ → Span → Rated → Worth
worth_by horizon s sum = if nat_lt (horizon + 1) s.to then Beyond else sum_worth s sum

-- what a reward is worth over a run
abbrev pub worth : Net → ℕ → State → List Event → Worth
worth net r opening es = worth_by net.horizon (span_of net r) (reward_sum net r opening es)
