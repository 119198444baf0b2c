-- What completes is an activity of its leaf.
use Rattle.std.proofs.Common.{ℕ, zero, suc, ◌+◌, ◌≤◌, ◌<◌, ◌≡◌, arith, List, [], ◌∷◌, length, Option, Some, None, Bool, true, false, nat_lt, cond, slice_index_or}
use Rattle.san_law.specs.Activity.{ActKind, Activity, Answer, Instant, No, Part, Timed, Traps, Yes, activity_of, first_in, first_instant, found_by, instants_from, placed, placed_by}
use Rattle.san_law.specs.First.{due_of}
use Rattle.san_law.specs.Net.{Broken, Enabled, Found, Net, Nothing, Timer}
use Rattle.san_law.specs.Next.{Completes, Next, Stable, TrapsAt, found_at, last_first, next_instant, next_of, scan}
use Rattle.san_law.specs.State.{State, gather, slots_of}

-- all numbers are below one
abbrev Under : ℕ → List (ℕ × ℕ) → Type 0
Under b [] = Unit {0}
Under b (x ∷ xs) = (x.1 < b) × Under b xs

under_placed : (b : ℕ) (x : ℕ × ℕ) (ys : List (ℕ × ℕ)) → x.1 < b → Under b ys → Under b (placed x ys)
under_placed b x [] h a = (h, tt)
under_placed b x (y ∷ ys) h a = by_test (nat_lt x.0 y.0) (under_placed b x ys h a.1)
  where
    by_test : (t : Bool) → Under b (placed x ys) → Under b (cond t (y ∷ placed x ys) (x ∷ y ∷ ys))
    by_test true rest = (a.0, rest)
    by_test false rest = (h, a)

under_by : (b k : ℕ) (kind : ActKind) (xs : List (ℕ × ℕ)) → k < b → Under b xs → Under b (placed_by k kind xs)
under_by b k (Timed delay pair) xs h a = a
under_by b k (Instant priority) xs h a = under_placed b (priority, k) xs h a

instants_under : (b k : ℕ) (acts : List Activity) → k + length acts ≤ b → Under b (instants_from k acts)
instants_under b k [] h = tt
instants_under b k (a ∷ acts) h = under_by b k a.kind (instants_from (suc k) acts) (omega (arith, h)) (instants_under b (suc k) acts (omega (arith, h)))

-- an activity that is found enabled is below a number
abbrev IsUnder : ℕ → Found → Type 0
IsUnder b Nothing = Unit {0}
IsUnder b (Enabled k) = k < b
IsUnder b (Broken k trap) = k < b

found_under : (part : Part) (values : List ℕ) (b : ℕ) (xs : List (ℕ × ℕ)) → Under b xs → IsUnder b (first_in part values xs)
found_under part values b [] a = tt
found_under part values b (x ∷ xs) a = by_answer ((activity_of part x.1).enabled values) (found_under part values b xs a.1)
  where
    by_answer : (w : Answer) → IsUnder b (first_in part values xs) → IsUnder b (found_by w x.1 (first_in part values xs))
    by_answer No rest = rest
    by_answer Yes rest = a.0
    by_answer (Traps trap) rest = a.0

pub first_under : (part : Part) (values : List ℕ) → IsUnder (length part.activities) (first_instant part values)
first_under part values = found_under part values (length part.activities) (instants_from 0 part.activities) (instants_under (length part.activities) 0 part.activities (omega arith))

-- so is the one that completes next
abbrev pub NextIsUnder : (ℕ → ℕ) → Next → Type 0
NextIsUnder acts Stable = Unit {0}
NextIsUnder acts (Completes j k) = k < acts j
NextIsUnder acts (TrapsAt j k trap) = k < acts j

at_under : (acts : ℕ → ℕ) (j : ℕ) (f : Found) (rest : Next) → IsUnder (acts j) f → NextIsUnder acts rest → NextIsUnder acts (found_at j f rest)
at_under acts j Nothing rest h r = r
at_under acts j (Enabled k) rest h r = h
at_under acts j (Broken k trap) rest h r = h

module _ (net : Net) (s : State) (under : (j : ℕ) (values : List ℕ) → IsUnder (net.acts j) (net.first j values)) where
  scan_under : (j n : ℕ) → NextIsUnder net.acts (scan net s j n)
  scan_under j zero = tt
  scan_under j (suc n) = at_under net.acts j (next_of net s j) (scan net s (suc j) n) (under j (gather (slots_of net j) s.marking)) (scan_under (suc j) n)

  last_under : (o : Option ℕ) → NextIsUnder net.acts (last_first net s o (scan net s 0 (length net.parts)))
  last_under None = scan_under 0 (length net.parts)
  last_under (Some j) = at_under net.acts j (next_of net s j) (scan net s 0 (length net.parts)) (under j (gather (slots_of net j) s.marking)) (scan_under 0 (length net.parts))

  pub next_under : NextIsUnder net.acts (next_instant net s)
  unfolding next_instant
  next_under = last_under s.last

-- a timer that is due is one of a list's
pub due_under : (ts : List (Option Timer)) (k time : ℕ) → due_of (slice_index_or ts k None) ≡ Some time → k < length ts
due_under [] k time e = absurd cc
due_under (t ∷ ts) zero time e = omega arith
due_under (t ∷ ts) (suc k) time e = let more = due_under ts k time e in omega (arith, more)
