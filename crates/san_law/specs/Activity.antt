-- A leaf's activities over its own list of values: enabling, completion, and the order in which they are tested.
use Rattle.std.specs.Prelude.{ℕ, suc, ◌+◌, ◌*◌, ◌≡◌, ◌≤◌, ◌<◌, ◌⊎◌, nat_lt, Bool, false, List, [], ◌∷◌, length, Option, Result, Ok, Err, if◌then◌else◌, slice_index, slice_index_or, slice_set}
use Rattle.san_base.specs.declared.ending.Trap.{Trap}
use Rattle.san_base.specs.declared.ending.Trap.TheVariants as trap
use Rattle.san_base.specs.declared.limits.TheConstants.{MAX_EVENT_IMPULSES}
use Rattle.san_law.specs.Net.{Broken, Done, Enabled, Found, Impulse, Local, Nothing, Rated, Row, Slot}

-- what a predicate gives
pub data Answer : Type 0 where
  No : Answer
  Yes : Answer
  Traps : (trap : Trap) → Answer

-- activation and reactivation predicate
pub record Pair : Type 0 where
  pub activation : List ℕ → Answer
  pub reactivation : List ℕ → Answer

-- timed, with a delay for a draw and perhaps a pair, or instantaneous
pub data ActKind : Type 0 where
  Timed : (delay : ℕ → List ℕ → Result ℕ Trap) (pair : Option Pair) → ActKind
  Instant : (priority : ℕ) → ActKind

-- the case that was chosen, the values after input functions and the case's outputs, and the places that were assigned
pub record Effected : Type 0 where
  pub case : ℕ
  pub values : List ℕ
  pub sets : ℕ → Bool

-- an activity: whether it is enabled, what it does for a case draw, and the impulses in the values that it reaches
pub record Activity : Type 0 where
  pub kind : ActKind
  pub enabled : List ℕ → Answer
  pub complete : ℕ → List ℕ → Result Effected Trap
  pub impulses : List ℕ → List Impulse

-- a leaf: where its places lie, its activities and the number of the first, its rate terms and the rewards that they are of
pub record Part : Type 0 where
  pub slots : List Slot
  pub first : ℕ
  pub activities : List Activity
  pub rates : List ℕ → List Rated
  pub terms : List ℕ

-- an activity that is never enabled
abbrev pub no_activity : Activity
no_activity = record { kind = Instant 0; enabled = λ v. No; complete = λ u v. Err trap.Arith; impulses = λ v. [] }

-- a part's activity by number
abbrev pub activity_of : Part → ℕ → Activity
activity_of part k = slice_index_or part.activities k no_activity

-- the instantaneous activities with their priorities, by greater priority and for equal priority by number
abbrev pub placed : ℕ × ℕ → List (ℕ × ℕ) → List (ℕ × ℕ)
placed x [] = x ∷ []
placed x (y ∷ ys) = if nat_lt x.0 y.0 then y ∷ placed x ys else x ∷ y ∷ ys

-- a timed activity has no place among them
abbrev pub placed_by : ℕ → ActKind → List (ℕ × ℕ) → List (ℕ × ℕ)
placed_by k (Timed delay pair) xs = xs
placed_by k (Instant priority) xs = placed (priority, k) xs

-- the activities in order, from a number on
abbrev pub instants_from : ℕ → List Activity → List (ℕ × ℕ)
instants_from k [] = []
instants_from k (a ∷ activities) = placed_by k a.kind (instants_from (suc k) activities)

-- one comes before others: a greater priority, or the same and a smaller number
abbrev pub ComesFirst : ℕ × ℕ → List (ℕ × ℕ) → Type 0
ComesFirst x [] = Unit {0}
ComesFirst x (y ∷ ys) = ((y.0 < x.0) ⊎ ((y.0 ≡ x.0) × (x.1 < y.1))) × ComesFirst x ys

-- each comes before those after it
abbrev pub AreInOrder : List (ℕ × ℕ) → Type 0
AreInOrder [] = Unit {0}
AreInOrder (x ∷ xs) = ComesFirst x xs × AreInOrder xs

-- the first of these that is enabled or traps
abbrev pub found_by : Answer → ℕ → Found → Found
found_by No k rest = rest
found_by Yes k rest = Enabled k
found_by (Traps trap) k rest = Broken k trap

-- one after another
abbrev pub first_in : Part → List ℕ → List (ℕ × ℕ) → Found
first_in part values [] = Nothing
first_in part values (x ∷ xs) = found_by ((activity_of part x.1).enabled values) x.1 (first_in part values xs)

-- a leaf's first instantaneous activity
abbrev pub first_instant : Part → List ℕ → Found
first_instant part values = first_in part values (instants_from 0 part.activities)

-- activity a takes its delay draws from stream 2a, and its case draws from stream 2a + 1
abbrev pub delay_stream : Part → ℕ → ℕ
delay_stream part k = 2 * (part.first + k)

-- the stream of its case draws
abbrev pub case_stream : Part → ℕ → ℕ
case_stream part k = 2 * (part.first + k) + 1

-- one case draw more is taken
abbrev pub with_case : Row → ℕ → Row
with_case r k = record { timers = r.timers; delays = r.delays; cases = slice_set r.cases k (slice_index r.cases k + 1) }

-- what a completion leaves, with the impulses in the values that it reached
abbrev pub done_by : Row → ℕ → Activity → Result Effected Trap → Result Done Trap
done_by r k a (Err trap) = Err trap
done_by r k a (Ok e) = Ok (record { left = record { values = e.values; row = with_case r k }; sets = e.sets; case = e.case; impulses = a.impulses e.values })

-- a completion takes the next case draw
abbrev pub completed : (ℕ → ℕ → ℕ) → Part → ℕ → Local → Result Done Trap
completed draw part k l = done_by l.row k (activity_of part k) ((activity_of part k).complete (draw (case_stream part k) (slice_index l.row.cases k)) l.values)

-- a completion leaves as many values, and those that it doesn't assign; it has at most 1,024 impulses
pub record IsMade (a : Activity) : Type 0 where
  pub keeps : (u : ℕ) (v : List ℕ) (e : Effected) → a.complete u v ≡ Ok e → length e.values ≡ length v
  pub sets : (u : ℕ) (v : List ℕ) (e : Effected) → a.complete u v ≡ Ok e → (p : ℕ) → e.sets p ≡ false → slice_index e.values p ≡ slice_index v p
  pub few : (v : List ℕ) → length (a.impulses v) ≤ MAX_EVENT_IMPULSES
