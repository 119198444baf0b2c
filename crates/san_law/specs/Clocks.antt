-- The renewal of a leaf's timers, activity by activity.
use Rattle.std.specs.Prelude.{ℕ, suc, ◌+◌, ◌≡◌, nat_eq, Bool, true, false, ◌&&◌, ◌||◌, not, List, [], ◌∷◌, Option, Some, None, Result, Ok, Err, if◌then◌else◌}
use Rattle.san_base.specs.declared.ending.Trap.{Trap}
use Rattle.san_law.specs.Net.{Faulty, Fresh, Local, Renewing, Row, Timer}
use Rattle.san_law.specs.Activity.{ActKind, Activity, Answer, Instant, No, Pair, Part, Timed, Traps, Yes, delay_stream}

-- one activity's timer, if it has one, and the number of its delay draws
abbrev pub Clock : Type 0
Clock = Option Timer × ℕ

-- what activation notes of the activation predicate
abbrev pub held_by : ℕ → ℕ → Answer → Result Clock Trap
held_by due n (Traps trap) = Err trap
held_by due n No = Ok (Some (record { due = due; held = false }), n + 1)
held_by due n Yes = Ok (Some (record { due = due; held = true }), n + 1)

-- without a pair the activation predicate counts as not held
abbrev pub paired_by : ℕ → ℕ → List ℕ → Option Pair → Result Clock Trap
paired_by due n values None = Ok (Some (record { due = due; held = false }), n + 1)
paired_by due n values (Some p) = held_by due n (p.activation values)

-- the timer is due after the delay
abbrev pub delayed_by : ℕ → ℕ → List ℕ → Option Pair → Result ℕ Trap → Result Clock Trap
delayed_by time n values pair (Err trap) = Err trap
delayed_by time n values pair (Ok delay) = paired_by (time + delay) n values pair

-- to activate: the delay with the next delay draw, then the activation predicate
abbrev pub activated : (ℕ → ℕ) → ℕ → List ℕ → (ℕ → List ℕ → Result ℕ Trap) → Option Pair → ℕ → Result Clock Trap
activated draw time values delay pair n = delayed_by time n values pair (delay (draw n) values)

-- what the reactivation predicate decides
abbrev pub again_by : Answer → Clock → Result Clock Trap → Result Clock Trap
again_by (Traps trap) x go = Err trap
again_by No x go = Ok x
again_by Yes x go = go

-- no place differs
abbrev pub same_list : List ℕ → List ℕ → Bool
same_list [] [] = true
same_list [] (y ∷ ys) = false
same_list (x ∷ xs) [] = false
same_list (x ∷ xs) (y ∷ ys) = nat_eq x y && same_list xs ys

-- a timer with a pair that held, where some place differs from what was seen and the reactivation predicate holds now, is activated anew
abbrev pub kept_by : List ℕ → List ℕ → Timer → ℕ → Option Pair → Result Clock Trap → Result Clock Trap
kept_by seen values t n None go = Ok (Some t, n)
kept_by seen values t n (Some p) go = if t.held && not (same_list seen values) then again_by (p.reactivation values) (Some t, n) go else Ok (Some t, n)

-- not enabled: the timer is dropped; enabled without a timer: it is activated
abbrev pub timed_by : List ℕ → List ℕ → Option Timer → ℕ → Option Pair → Result Clock Trap → Answer → Result Clock Trap
timed_by seen values x n pair go (Traps trap) = Err trap
timed_by seen values x n pair go No = Ok (None, n)
timed_by seen values None n pair go Yes = go
timed_by seen values (Some t) n pair go Yes = kept_by seen values t n pair go

-- one activity's renewal
abbrev pub renewed_act : (ℕ → ℕ) → ℕ → List ℕ → List ℕ → Activity → ActKind → Option Timer → ℕ → Result Clock Trap
renewed_act draw time seen values a (Instant priority) x n = Ok (x, n)
renewed_act draw time seen values a (Timed delay pair) x n = timed_by seen values x n pair (activated draw time values delay pair n) (a.enabled values)

-- all clocks, or the first activity that traps
pub data Clocks : Type 0 where
  AllClocks : (timers : List (Option Timer)) (delays : List ℕ) → Clocks
  BadClock : (act : ℕ) (trap : Trap) → Clocks

-- one clock before the others
abbrev pub clock_and : Clock → Clocks → Clocks
clock_and x (AllClocks ts ns) = AllClocks (x.0 ∷ ts) (x.1 ∷ ns)
clock_and x (BadClock k trap) = BadClock k trap

-- the first trap ends the renewal
abbrev pub clock_then : ℕ → Result Clock Trap → Clocks → Clocks
clock_then k (Err trap) rest = BadClock k trap
clock_then k (Ok x) rest = clock_and x rest

-- the activities in order, from a number on
abbrev pub renewed_acts : (ℕ → ℕ → ℕ) → ℕ → List ℕ → List ℕ → ℕ → List Activity → List (Option Timer) → List ℕ → Clocks
renewed_acts draws time seen values k [] ts ns = AllClocks ts ns
renewed_acts draws time seen values k (a ∷ acts) [] ns = AllClocks [] ns
renewed_acts draws time seen values k (a ∷ acts) (t ∷ ts) [] = AllClocks (t ∷ ts) []
renewed_acts draws time seen values k (a ∷ acts) (t ∷ ts) (n ∷ ns) = clock_then k (renewed_act (draws k) time seen values a a.kind t n) (renewed_acts draws time seen values (suc k) acts ts ns)

-- the clocks as a row; the case draws stay
abbrev pub row_of_clocks : List ℕ → Clocks → Renewing
row_of_clocks cases (BadClock k trap) = Faulty k trap
row_of_clocks cases (AllClocks ts ns) = Fresh (record { timers = ts; delays = ns; cases = cases })

-- a leaf's renewal; activity k takes its delay draws from its own stream
abbrev pub renewed_row : (ℕ → ℕ → ℕ) → Part → ℕ → List ℕ → Local → Renewing
renewed_row draw part time seen l = row_of_clocks l.row.cases (renewed_acts (λ k. draw (delay_stream part k)) time seen l.values 0 part.activities l.row.timers l.row.delays)

-- an activity with a pair
abbrev pub has_pair : ActKind → Bool
has_pair (Instant priority) = false
has_pair (Timed delay None) = false
has_pair (Timed delay (Some p)) = true

-- some activity has a pair
abbrev pub some_pair : List Activity → Bool
some_pair [] = false
some_pair (a ∷ acts) = has_pair a.kind || some_pair acts

-- a timer stands exactly where the activity is enabled
abbrev pub answers : Answer → Option Timer → Bool
answers No None = true
answers No (Some t) = false
answers Yes None = false
answers Yes (Some t) = true
answers (Traps trap) x = false

-- an instantaneous activity has no timer to keep
abbrev pub steady_act : List ℕ → Activity → ActKind → Option Timer → Bool
steady_act values a (Instant priority) x = true
steady_act values a (Timed delay pair) x = answers (a.enabled values) x

-- all activities are so
abbrev pub steady : List ℕ → List Activity → List (Option Timer) → List ℕ → Bool
steady values [] ts ns = true
steady values (a ∷ acts) [] ns = true
steady values (a ∷ acts) (t ∷ ts) [] = true
steady values (a ∷ acts) (t ∷ ts) (n ∷ ns) = steady_act values a a.kind t && steady values acts ts ns

-- a row is steady where a timer stands exactly for each enabled timed activity
abbrev pub IsSteady : Part → List ℕ → Row → Type 0
IsSteady part values r = steady values part.activities r.timers r.delays ≡ true

-- renewal leaves a row as it is
abbrev pub NoChange : (ℕ → ℕ → ℕ) → Part → ℕ → List ℕ → List ℕ → Row → Type 0
NoChange draw part t seen values r = renewed_row draw part t seen (record { values = values; row = r }) ≡ Fresh r

-- a steady row stays at whatever time, where the values are those that were seen
abbrev pub SteadyIsQuiet : Part → Type 0
SteadyIsQuiet part = (draw : ℕ → ℕ → ℕ) (values : List ℕ) (r : Row) → IsSteady part values r → (t : ℕ) → NoChange draw part t values values r

-- a row that a renewal left as it was is steady, whatever was seen
abbrev pub QuietIsSteady : Part → Type 0
QuietIsSteady part = (draw : ℕ → ℕ → ℕ) (values seen : List ℕ) (r : Row) (t : ℕ) → NoChange draw part t seen values r → IsSteady part values r
