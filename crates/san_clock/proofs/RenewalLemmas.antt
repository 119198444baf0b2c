-- The renewal of a leaf's clocks, one after another.
use Rattle.san_base.proofs.Lists.{nothing_behind, map_last}
use Rattle.std.proofs.Common.{ℕ, zero, suc, ◌+◌, ◌*◌, ◌<◌, ◌≤◌, ◌≡◌, ◌≢◌, ◌∙◌, ap, sym, refl, subst, arith, List, [], ◌∷◌, ◌++◌, length, map, take, drop, Option, Result, Ok, Err, IfOk, slice_index, slice_index_or, slice_set, ◌⊎◌, inl, inr}
use Rattle.std.specs.Option.{option_map}
use Rattle.std.proofs.lemmas.Bool.{cases_eq}
use Rattle.std.proofs.lemmas.List.{get_or-set_same, get_or-set_other, length-set}
use Rattle.san_base.specs.declared.ending.Trap.{Trap}
use Rattle.san_law.specs.Clocks as law
use Rattle.san_law.specs.Net as net
use Rattle.san_net.specs.Instants.{Named}
use Rattle.san_net.specs.Leaf.{activity_in, kind_in}
use Rattle.san_net.specs.declared.activity.ActKind.{ActKind}
use Rattle.san_net.specs.declared.activity.ActKind.TheVariants as kind
use Rattle.san_net.specs.declared.activity.Activity.{Activity}
use Rattle.san_net.specs.declared.atomic.ImpulseTerm.{ImpulseTerm}
use Rattle.san_clock.specs.Rows.{timer_in}
use Rattle.san_clock.specs.inner.Clocks.{ClockValue, clock_by, clock_in, renewed_in}
use Rattle.san_clock.specs.inner.Renewals.{renewed_named}
use Rattle.san_clock.specs.declared.row.Timer.{Timer}

-- clocks behind those that are renewed already
abbrev pub behind : List (Option net.Timer) → List ℕ → law.Clocks → law.Clocks
behind ts ns (law.AllClocks us ms) = law.AllClocks (ts ++ us) (ns ++ ms)
behind ts ns (law.BadClock k trap) = law.BadClock k trap

pub appended : {A : Type 0} (xs : List A) (x : A) (ys : List A) → xs ++ x ∷ ys ≡ (xs ++ x ∷ []) ++ ys
appended [] x ys = refl
appended (w ∷ xs) x ys = ap (λ zs. w ∷ zs) (appended xs x ys)

-- one clock more is renewed
behind_one : (ts : List (Option net.Timer)) (ns : List ℕ) (x : law.Clock) (rest : law.Clocks) → behind ts ns (law.clock_and x rest) ≡ behind (ts ++ x.0 ∷ []) (ns ++ x.1 ∷ []) rest
behind_one ts ns x (law.AllClocks us ms) = ap (λ zs. law.AllClocks zs (ns ++ x.1 ∷ ms)) (appended ts x.0 us) ∙ ap (λ zs. law.AllClocks ((ts ++ x.0 ∷ []) ++ us) zs) (appended ns x.1 ms)
behind_one ts ns x (law.BadClock k trap) = refl

-- an activity's renewal is the same whatever its number and its impulses
pub by_kind : (draw : ℕ → ℕ) (time : ℕ) (seen values : List ℕ) (terms : List ImpulseTerm) (k : ℕ) (a : Activity) (x : Option net.Timer) (n : ℕ) (kd : ActKind)
    → law.renewed_act draw time seen values (activity_in [] 0 a) (kind_in kd) x n ≡ law.renewed_act draw time seen values (activity_in terms k a) (kind_in kd) x n
by_kind draw time seen values terms k a x n (kind.Timed delay pair) = refl
by_kind draw time seen values terms k a x n (kind.Instant priority) = refl

-- the rest of a list, and what an assignment does to it
pub from_here : {A : Type 0} (xs : List A) (k : ℕ) (d : A) → k < length xs → drop k xs ≡ slice_index_or xs k d ∷ drop (suc k) xs
from_here [] k d h = absurd (omega (arith, h))
from_here (x ∷ xs) zero d h = refl
from_here (x ∷ xs) (suc k) d h = from_here xs k d (omega (arith, h))

pub set_front : {A : Type 0} (xs : List A) (k : ℕ) (v : A) → k < length xs → take (suc k) (slice_set xs k v) ≡ take k xs ++ v ∷ []
set_front [] k v h = absurd (omega (arith, h))
set_front (x ∷ xs) zero v h = refl
set_front (x ∷ xs) (suc k) v h = ap (λ zs. x ∷ zs) (set_front xs k v (omega (arith, h)))

pub set_rest : {A : Type 0} (xs : List A) (k : ℕ) (v : A) → drop (suc k) (slice_set xs k v) ≡ drop (suc k) xs
set_rest [] k v = refl
set_rest (x ∷ xs) zero v = refl
set_rest (x ∷ xs) (suc k) v = set_rest xs k v

pub all_taken : {A : Type 0} (xs : List A) (k : ℕ) → length xs ≤ k → (take k xs ≡ xs) × (drop k xs ≡ [])
all_taken [] zero h = (refl, refl)
all_taken [] (suc k) h = (refl, refl)
all_taken (x ∷ xs) zero h = absurd (omega (arith, h))
all_taken (x ∷ xs) (suc k) h = let rest = all_taken xs k (omega (arith, h)) in (ap (λ zs. x ∷ zs) rest.0, rest.1)

module _ (draw : ℕ → ℕ → ℕ) (first time : ℕ) (seen values : List ℕ) (acts : List Named) where
  -- what is renewed, and then the others
  abbrev pub so_far : List (Option Timer) → List ℕ → ℕ → law.Clocks
  so_far timers delays k = behind (map (option_map timer_in) (take k timers)) (take k delays) (renewed_named draw first time seen values k (drop k acts) (map (option_map timer_in) (drop k timers)) (drop k delays))

  module _ (timers : List (Option Timer)) (delays : List ℕ) (k : ℕ) (a : Named) (t : Option Timer) (n : ℕ) (da : Named) (dt : Option Timer) (here : k < length acts) (timed : k < length timers) (counted : k < length delays)
      (act : a ≡ slice_index_or acts k da) (timer : t ≡ slice_index_or timers k dt) (number : n ≡ slice_index delays k) where
    abbrev after : List (Option Timer) → List ℕ → law.Clocks
    after ts ns = renewed_named draw first time seen values (suc k) (drop (suc k) acts) (map (option_map timer_in) ts) ns

    -- the activity is renewed before those after it
    next_is : renewed_named draw first time seen values k (drop k acts) (map (option_map timer_in) (drop k timers)) (drop k delays)
        ≡ law.clock_then k (renewed_in (draw (2 * (first + k))) time seen values a.1 (t, n)) (after (drop (suc k) timers) (drop (suc k) delays))
    next_is =
        ap (λ (xs : List Named). renewed_named draw first time seen values k xs (map (option_map timer_in) (drop k timers)) (drop k delays)) (from_here acts k da here ∙ ap (λ (b : Named). b ∷ drop (suc k) acts) (sym act))
        ∙ ap (λ (xs : List (Option Timer)). renewed_named draw first time seen values k (a ∷ drop (suc k) acts) (map (option_map timer_in) xs) (drop k delays)) (from_here timers k dt timed ∙ ap (λ (b : Option Timer). b ∷ drop (suc k) timers) (sym timer))
        ∙ ap (λ (xs : List ℕ). renewed_named draw first time seen values k (a ∷ drop (suc k) acts) (map (option_map timer_in) (t ∷ drop (suc k) timers)) xs) (from_here delays k 0 counted ∙ ap (λ (b : ℕ). b ∷ drop (suc k) delays) (sym number))
        ∙ ap (λ r. law.clock_then k r (after (drop (suc k) timers) (drop (suc k) delays))) (sym (by_kind (draw (2 * (first + k))) time seen values [] k a.1 (option_map timer_in t) n a.1.kind))

    pub trapped : (trap : Trap) → clock_by (Err trap) ≡ renewed_in (draw (2 * (first + k))) time seen values a.1 (t, n) → so_far timers delays k ≡ law.BadClock k trap
    trapped trap is =
        ap (behind (map (option_map timer_in) (take k timers)) (take k delays)) (next_is ∙ ap (λ r. law.clock_then k r (after (drop (suc k) timers) (drop (suc k) delays))) (sym is))

    pub renewed : (c : ClockValue) → clock_by (Ok c) ≡ renewed_in (draw (2 * (first + k))) time seen values a.1 (t, n)
        → so_far timers delays k ≡ so_far (slice_set timers k c.0) (slice_set delays k c.1) (k + 1)
    renewed c is =
        let next : suc k ≡ k + 1 = omega arith in
        let left : law.Clocks = after (drop (suc k) timers) (drop (suc k) delays) in
        ap (behind (map (option_map timer_in) (take k timers)) (take k delays)) (next_is ∙ ap (λ r. law.clock_then k r left) (sym is))
        ∙ behind_one (map (option_map timer_in) (take k timers)) (take k delays) (clock_in c) left
        ∙ ap (λ zs. behind zs (take k delays ++ c.1 ∷ []) left) (sym (map_last (option_map timer_in) (take k timers) c.0) ∙ ap (map (option_map timer_in)) (sym (set_front timers k c.0 timed)))
        ∙ ap (λ zs. behind (map (option_map timer_in) (take (suc k) (slice_set timers k c.0))) zs left) (sym (set_front delays k c.1 counted))
        ∙ ap (behind (map (option_map timer_in) (take (suc k) (slice_set timers k c.0))) (take (suc k) (slice_set delays k c.1)))
        (ap (λ zs. after zs (drop (suc k) delays)) (sym (set_rest timers k c.0)) ∙ ap (after (drop (suc k) (slice_set timers k c.0))) (sym (set_rest delays k c.1)))
        ∙ ap (so_far (slice_set timers k c.0) (slice_set delays k c.1)) next

  pub all_renewed : (timers : List (Option Timer)) (delays : List ℕ) (k : ℕ) → length acts ≤ k → length timers ≡ length acts → length delays ≡ length acts → so_far timers delays k ≡ law.AllClocks (map (option_map timer_in) timers) delays
  all_renewed timers delays k over timed counted =
      ap (λ (xs : List Named). behind (map (option_map timer_in) (take k timers)) (take k delays) (renewed_named draw first time seen values k xs (map (option_map timer_in) (drop k timers)) (drop k delays))) (all_taken acts k over).1
      ∙ ap (λ (xs : List (Option Timer)). law.AllClocks (map (option_map timer_in) (take k timers) ++ map (option_map timer_in) xs) (take k delays ++ drop k delays)) (all_taken timers k (omega (arith, over, timed))).1
      ∙ ap (λ (xs : List ℕ). law.AllClocks (map (option_map timer_in) (take k timers) ++ []) (take k delays ++ xs)) (all_taken delays k (omega (arith, over, counted))).1
      ∙ ap (λ (xs : List (Option net.Timer)). law.AllClocks xs (take k delays ++ [])) (nothing_behind (map (option_map timer_in) (take k timers)) ∙ ap (map (option_map timer_in)) (all_taken timers k (omega (arith, over, timed))).0)
      ∙ ap (λ (xs : List ℕ). law.AllClocks (map (option_map timer_in) timers) xs) (nothing_behind (take k delays) ∙ (all_taken delays k (omega (arith, over, counted))).0)

-- within the list its default doesn't matter
pub at_any : (xs : List ℕ) (k d : ℕ) → k < length xs → slice_index_or xs k d ≡ slice_index xs k
at_any [] k d h = absurd (omega (arith, h))
at_any (x ∷ xs) zero d h = refl
at_any (x ∷ xs) (suc k) d h = at_any xs k d (omega (arith, h))

pub more_by : (r : Result ClockValue Trap) (c : ClockValue) (n : ℕ) → r ≡ Ok c → IfOk r (λ x. x.1 ≤ n + 1) → c.1 ≤ n + 1
more_by r c n is more = subst (λ (x : Result ClockValue Trap). IfOk x (λ y. y.1 ≤ n + 1)) is more

-- a number more is no greater than the most, and one
pub numbered : (old now : List ℕ) (k n most : ℕ) → k < length now → ((i : ℕ) → k ≤ i → slice_index now i ≡ slice_index old i) → length now ≡ length old
    → n ≤ slice_index now k + 1 → ((i : ℕ) → i < length old → slice_index old i ≤ most)
    → ((i : ℕ) → i < length now → slice_index now i ≤ most + 1)
    → (i : ℕ) → i < length (slice_set now k n) → slice_index (slice_set now k n) i ≤ most + 1
numbered old now k n most h left sized more before after i b = by_case (cases_eq i k)
  where
    by_case : (i ≡ k) ⊎ (i ≢ k) → slice_index (slice_set now k n) i ≤ most + 1
    by_case (inl e) = omega (arith, ap (slice_index (slice_set now k n)) e, get_or-set_same now k n 0 h, more, left k (omega arith), before k (omega (arith, h, sized)))
    by_case (inr ne) = omega (arith, get_or-set_other now k i n 0 ne, after i (omega (arith, b, length-set now k n)))

pub left_one : (old now : List ℕ) (k n : ℕ) → ((i : ℕ) → k ≤ i → slice_index now i ≡ slice_index old i)
    → (i : ℕ) → k + 1 ≤ i → slice_index (slice_set now k n) i ≡ slice_index old i
left_one old now k n left i b = get_or-set_other now k i n 0 (λ e. absurd (omega (arith, b, e))) ∙ left i (omega (arith, b))
