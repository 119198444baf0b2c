-- The least key of a list of flags is the first that is up.
use Rattle.std.proofs.Common.{ℕ, zero, suc, ◌+◌, ◌-◌, ◌<◌, ◌≤◌, ◌≡◌, ◌∙◌, ap, sym, refl, subst, arith, List, [], ◌∷◌, length, map, take, drop, replicate, Option, Some, None, Bool, true, false, nat_lt, cond, slice_set}
use Rattle.std.specs.Prelude.{slice_get}
use Rattle.std.proofs.lemmas.Bool.{ltb-true}
use Rattle.std.proofs.lemmas.List.{length-map}
use Rattle.san_base.proofs.Lists.{take_whole}
use Rattle.san_winner.proofs.TreeLemmas.{length_drop}
use Rattle.san_winner.specs.Least.{Won, sooner, least_from, least_between}
use Rattle.san_winner.specs.Flags.{AreKeys, IsKey, SaysNext, is_up}

-- what the least of these keys, the first of which stands at i, says
abbrev Says : ℕ → List (Option ℕ) → Won → Type 0
Says i xs None = (k : ℕ) → k < length xs → slice_get (map is_up xs) k ≡ Some false
Says i xs (Some w) = (j : ℕ) × (w.1 ≡ i + j) × (w.0 ≡ 0) × (j < length xs) × (slice_get (map is_up xs) j ≡ Some true) × ((k : ℕ) → k < j → slice_get (map is_up xs) k ≡ Some false)

says_up : (i : ℕ) (xs : List (Option ℕ)) (n : ℕ) (w : Won) → n ≡ 0 → Says i (Some n ∷ xs) (sooner (Some (n, i)) w)
says_up i xs n None z = (0, omega arith, z, omega arith, refl, λ k h. absurd (omega (arith, h)))
says_up i xs n (Some b) z = by_test (nat_lt b.0 n) refl
  where
    by_test : (t : Bool) → nat_lt b.0 n ≡ t → Says i (Some n ∷ xs) (cond t (Some b) (Some (n, i)))
    by_test true e = let h = ltb-true b.0 n e in absurd (omega (arith, h, z))
    by_test false e = (0, omega arith, z, omega arith, refl, λ k h. absurd (omega (arith, h)))

says_down : (i : ℕ) (xs : List (Option ℕ)) (w : Won) → Says (suc i) xs w → Says i (None ∷ xs) w
says_down i xs None h = each
  where
    each : (k : ℕ) → k < length (None ∷ xs) → slice_get (map is_up (None ∷ xs)) k ≡ Some false
    each zero l = refl
    each (suc k) l = h k (omega (arith, l))
says_down i xs (Some w) (j, at, key, within, up, below) = (suc j, omega (arith, at), key, omega (arith, within), up, each)
  where
    each : (k : ℕ) → k < suc j → slice_get (map is_up (None ∷ xs)) k ≡ Some false
    each zero l = refl
    each (suc k) l = below k (omega (arith, l))

says : (i : ℕ) (xs : List (Option ℕ)) → AreKeys xs → Says i xs (least_from i xs)
unfolding least_from
says i [] h = λ k l. absurd (omega (arith, l))
says i (None ∷ xs) h = says_down i xs (least_from (suc i) xs) (says (suc i) xs h.1)
says i (Some n ∷ xs) h = says_up i xs n (least_from (suc i) xs) h.0

-- from a number on
later : (from : ℕ) (xs : List (Option ℕ)) → AreKeys xs → AreKeys (drop from xs)
later zero xs h = h
later (suc n) [] h = tt
later (suc n) (x ∷ xs) h = later n xs h.1

got_drop : (from k : ℕ) (xs : List (Option ℕ)) → slice_get (map is_up (drop from xs)) k ≡ slice_get (map is_up xs) (from + k)
got_drop zero k xs = ap (slice_get (map is_up xs)) (omega arith)
got_drop (suc n) k [] = refl
got_drop (suc n) k (x ∷ xs) = let same : suc n + k ≡ suc (n + k) = omega arith in got_drop n k xs ∙ ap (slice_get (map is_up (x ∷ xs))) (sym same)

abbrev pub as_next : Won → Option ℕ
as_next None = None
as_next (Some w) = Some w.1

next_by : (from : ℕ) (xs : List (Option ℕ)) (w : Won) → from ≤ length xs → Says from (drop from xs) w → SaysNext from (map is_up xs) (as_next w)
next_by from xs None h says_none = λ i l u.
    let same : from + (i - from) ≡ i = omega (arith, l) in
    let long = length_drop from xs in
    let many = length-map xs is_up in
    ap (slice_get (map is_up xs)) (sym same) ∙ sym (got_drop from (i - from) xs) ∙ says_none (i - from) (omega (arith, l, u, long, many))
next_by from xs (Some w) h (j, at, key, within, up, below) =
    let long = length_drop from xs in
    let many = length-map xs is_up in
    record {
      low = omega (arith, at);
      within = omega (arith, at, within, long, many, h);
      up = ap (slice_get (map is_up xs)) at ∙ sym (got_drop from j xs) ∙ up;
      down = λ i l u.
          let same : from + (i - from) ≡ i = omega (arith, l) in
          ap (slice_get (map is_up xs)) (sym same) ∙ sym (got_drop from (i - from) xs) ∙ below (i - from) (omega (arith, l, u, at));
    }

pub says_next : (from : ℕ) (xs : List (Option ℕ)) (w : Won) → from ≤ length xs → AreKeys xs → w ≡ least_between from (length xs) xs → SaysNext from (map is_up xs) (as_next w)
says_next from xs w h keys is =
    let all : take (length xs - from) (drop from xs) ≡ drop from xs = take_whole (length xs - from) (drop from xs) (omega (arith, length_drop from xs)) in
    subst (λ (x : Won). SaysNext from (map is_up xs) (as_next x)) (sym (is ∙ ap (least_from from) all)) (next_by from xs (least_from from (drop from xs)) h (says from (drop from xs) (later from xs keys)))

-- one flag anew
pub keys_set : (xs : List (Option ℕ)) (j : ℕ) (x : Option ℕ) → IsKey x → AreKeys xs → AreKeys (slice_set xs j x)
keys_set [] j x k h = tt
keys_set (y ∷ ys) zero x k h = (k, h.1)
keys_set (y ∷ ys) (suc j) x k h = (h.0, keys_set ys j x k h.1)

pub up_set : (xs : List (Option ℕ)) (j : ℕ) (x : Option ℕ) → map is_up (slice_set xs j x) ≡ slice_set (map is_up xs) j (is_up x)
up_set [] j x = refl
up_set (y ∷ ys) zero x = refl
up_set (y ∷ ys) (suc j) x = ap (λ (bs : List Bool). is_up y ∷ bs) (up_set ys j x)

-- the first so many are up
abbrev pub UpTo : ℕ → List (Option ℕ) → Type 0
UpTo zero xs = Unit {0}
UpTo (suc k) [] = Unit {0}
UpTo (suc k) (x ∷ xs) = (x ≡ Some 0) × UpTo k xs

pub keys_none : (n : ℕ) → AreKeys (replicate n None)
keys_none zero = tt
keys_none (suc n) = (tt, keys_none n)

pub up_more : (k : ℕ) (xs : List (Option ℕ)) → UpTo k xs → UpTo (suc k) (slice_set xs k (Some 0))
up_more k [] h = tt
up_more zero (x ∷ xs) h = (refl, tt)
up_more (suc k) (x ∷ xs) h = (h.0, up_more k xs h.1)

pub all_up : (xs : List (Option ℕ)) → UpTo (length xs) xs → map is_up xs ≡ replicate (length xs) true
all_up [] h = refl
all_up (x ∷ xs) h = ap (λ (o : Option ℕ). is_up o ∷ map is_up xs) h.0 ∙ ap (λ (bs : List Bool). true ∷ bs) (all_up xs h.1)

pub up_enough : (k : ℕ) (xs : List (Option ℕ)) → length xs ≤ k → UpTo k xs → UpTo (length xs) xs
up_enough k [] l h = tt
up_enough zero (x ∷ xs) l h = absurd (omega (arith, l))
up_enough (suc k) (x ∷ xs) l h = (h.0, up_enough k xs (omega (arith, l)) h.1)

pub long_none : (n : ℕ) → (let xs : List (Option ℕ) = replicate n None in length xs) ≡ n
long_none zero = refl
long_none (suc n) = ap suc (long_none n)
