-- What a snapshot has and shows.
use Rattle.std.proofs.Common.{ℕ, zero, suc, ◌+◌, ◌<◌, ◌≤◌, ◌≡◌, ◌≢◌, ◌∙◌, ◌⊎◌, inl, inr, ap, arith, sym, refl, subst, List, [], ◌∷◌, ◌++◌, length, map, take, drop, Bool, true, false, nat_eq, nat_lt, if◌then◌else◌}
use Rattle.std.specs.Prelude.{Result, Ok, Err, insert, slice_index, slice_index_or, slice_set}
use Rattle.std.specs.List.Sorted.{IsBinarySearchResult}
use Rattle.std.specs.Ordering.{nat_cmp}
use Rattle.std.proofs.lemmas.Bool.{cases_eq, cases_lt, lt-ltb, true≢false}
use Rattle.std.proofs.lemmas.Bool.Decides.{nat_tests}
use Rattle.std.proofs.lemmas.List.Sorted.{searched}
use Rattle.san_base.proofs.NumberTests.{number_itself, other_number, same_number}
use Rattle.san_base.specs.declared.limits.TheConstants.{MAX_TOKENS}
use Rattle.san_base.specs.declared.numbers.PlaceId.{PlaceId}
use Rattle.san_net.specs.Leaf.{slot_in}
use Rattle.san_net.specs.declared.part.Slot.{Slot}
use Rattle.san_net.specs.declared.part.Slot.TheVariants as slot
use Rattle.san_speculation.specs.Snapshots.{added, marking_of, put_at, shared_more}
use Rattle.san_speculation.specs.inner.Ascending.{AreAscending, AreTokens, IsBelowAll, IsIndexOf, value_in}

-- of two places, the one in front is below the other
below_at : (q : ℕ) (xs : List ℕ) (k : ℕ) → IsBelowAll q xs → k < length xs → q < slice_index xs k
below_at q [] k h l = absurd (omega (arith, l))
below_at q (x ∷ xs) zero h l = h.0
below_at q (x ∷ xs) (suc k) h l = below_at q xs k h.1 (omega (arith, l))

pub ascending_at : (xs : List ℕ) (i k : ℕ) → AreAscending xs → i < k → k < length xs → slice_index xs i < slice_index xs k
ascending_at [] i k a h l = absurd (omega (arith, l))
ascending_at (x ∷ xs) i zero a h l = absurd (omega (arith, h))
ascending_at (x ∷ xs) zero (suc k) a h l = below_at x xs k a.0 (omega (arith, l))
ascending_at (x ∷ xs) (suc i) (suc k) a h l = ascending_at xs i k a.1 (omega (arith, h)) (omega (arith, l))

pub rising : (xs : List ℕ) → AreAscending xs → (i j : ℕ) → i ≤ j → j < length xs → slice_index xs i ≤ slice_index xs j
rising xs a i j h l = by_case (cases_eq i j)
  where
    by_case : (i ≡ j) ⊎ (i ≢ j) → slice_index xs i ≤ slice_index xs j
    by_case (inl e) = let k : slice_index xs i ≡ slice_index xs j = ap (λ (m : ℕ). slice_index xs m) e in omega (arith, k)
    by_case (inr n) = let k = ascending_at xs i j a (omega (arith, h, n)) l in omega (arith, k)

-- what a search by halves finds
pub index_is : (q : ℕ) (xs : List ℕ) (r : Result ℕ ℕ) → AreAscending xs → IsBinarySearchResult (λ y. nat_cmp y q) xs r → IsIndexOf q xs r
index_is q xs (Ok i) a h = searched xs q (Ok i) h (rising xs a)
index_is q xs (Err i) a h = searched xs q (Err i) h (rising xs a)

-- one more place
below_added : (x q : ℕ) (xs : List ℕ) → x < q → IsBelowAll x xs → IsBelowAll x (added q xs)
below_added x q [] h b = (h, tt)
below_added x q (y ∷ ys) h b = by_test (nat_lt q y) (nat_eq q y) (below_added x q ys h b.1)
  where
    by_test : (s t : Bool) → IsBelowAll x (added q ys) → IsBelowAll x (if s then q ∷ (y ∷ ys) else if t then y ∷ ys else y ∷ added q ys)
    by_test true t k = (h, b)
    by_test false true k = b
    by_test false false k = (b.0, k)

below_more : (q y : ℕ) (ys : List ℕ) → q < y → IsBelowAll y ys → IsBelowAll q ys
below_more q y [] h b = tt
below_more q y (z ∷ zs) h b = (let k = b.0 in omega (arith, h, k), below_more q y zs h b.1)

is_lt : (a b : ℕ) → nat_lt a b ≡ true → a < b
is_lt a b h = grind (arith, nat_tests)

is_gt : (a b : ℕ) → nat_lt a b ≡ false → nat_eq a b ≡ false → b < a
is_gt a b h k = grind (arith, nat_tests)

pub added_ascending : (q : ℕ) (xs : List ℕ) → AreAscending xs → AreAscending (added q xs)
added_ascending q [] a = (tt, tt)
added_ascending q (y ∷ ys) a = by_test (nat_lt q y) (nat_eq q y) refl refl (added_ascending q ys a.1)
  where
    by_test : (s t : Bool) → nat_lt q y ≡ s → nat_eq q y ≡ t → AreAscending (added q ys) → AreAscending (if s then q ∷ (y ∷ ys) else if t then y ∷ ys else y ∷ added q ys)
    by_test true t s_is t_is k = ((is_lt q y s_is, below_more q y ys (is_lt q y s_is) a.0), a)
    by_test false true s_is t_is k = a
    by_test false false s_is t_is k = (below_added y q ys (is_gt q y s_is t_is) a.0, k)

not_below : (a b : ℕ) → b ≤ a → nat_lt a b ≡ false
not_below a b h = grind (arith, nat_tests)

-- it is there already
pub added_there : (q : ℕ) (xs : List ℕ) (i : ℕ) → AreAscending xs → i < length xs → slice_index xs i ≡ q → added q xs ≡ xs
added_there q [] i a l e = absurd (omega (arith, l))
added_there q (x ∷ xs) zero a l e =
    ap (λ (s : Bool). if s then q ∷ (x ∷ xs) else if nat_eq q x then x ∷ xs else x ∷ added q xs) (not_below q x (omega (arith, e)))
    ∙ ap (λ (t : Bool). if t then x ∷ xs else x ∷ added q xs) (subst (λ (y : ℕ). nat_eq q y ≡ true) (sym e) (number_itself q))
added_there q (x ∷ xs) (suc i) a l e =
    let k : x < q = let b = below_at x xs i a.0 (omega (arith, l)) in omega (arith, b, e) in
    ap (λ (s : Bool). if s then q ∷ (x ∷ xs) else if nat_eq q x then x ∷ xs else x ∷ added q xs) (not_below q x (omega (arith, k)))
    ∙ (ap (λ (t : Bool). if t then x ∷ xs else x ∷ added q xs) (other_number q x (λ s. absurd (omega (arith, k, s))))
    ∙ ap (λ (ys : List ℕ). x ∷ ys) (added_there q xs i a.1 (omega (arith, l)) e))

-- it is put in where those below it end
pub added_at : (q : ℕ) (xs : List ℕ) (i : ℕ) → i ≤ length xs → ((k : ℕ) → k < i → slice_index xs k < q) → ((k : ℕ) → i ≤ k → k < length xs → q < slice_index xs k) → added q xs ≡ insert xs i q
added_at q [] zero l b g = refl
added_at q [] (suc i) l b g = absurd (omega (arith, l))
added_at q (x ∷ xs) zero l b g = ap (λ (s : Bool). if s then q ∷ (x ∷ xs) else if nat_eq q x then x ∷ xs else x ∷ added q xs) (lt-ltb q x (g 0 (omega arith) (omega arith)))
added_at q (x ∷ xs) (suc i) l b g =
    let k : x < q = b 0 (omega arith) in
    ap (λ (s : Bool). if s then q ∷ (x ∷ xs) else if nat_eq q x then x ∷ xs else x ∷ added q xs) (not_below q x (omega (arith, k)))
    ∙ (ap (λ (t : Bool). if t then x ∷ xs else x ∷ added q xs) (other_number q x (λ s. absurd (omega (arith, k, s))))
    ∙ ap (λ (ys : List ℕ). x ∷ ys) (added_at q xs i (omega (arith, l)) (λ m h. b (suc m) (omega (arith, h))) (λ m h n. g (suc m) (omega (arith, h)) (omega (arith, n)))))

-- a place's value
pub value_there : (q : ℕ) (xs vs : List ℕ) (i : ℕ) → AreAscending xs → length vs ≡ length xs → i < length xs → slice_index xs i ≡ q → value_in q xs vs ≡ slice_index vs i
value_there q [] vs i a n l e = absurd (omega (arith, l))
value_there q (x ∷ xs) [] i a n l e = absurd (omega (arith, n))
value_there q (x ∷ xs) (v ∷ vs) zero a n l e = ap (λ (t : Bool). if t then v else value_in q xs vs) (subst (λ (y : ℕ). nat_eq x y ≡ true) e (number_itself x))
value_there q (x ∷ xs) (v ∷ vs) (suc i) a n l e =
    let k : x < q = let b = below_at x xs i a.0 (omega (arith, l)) in omega (arith, b, e) in
    ap (λ (t : Bool). if t then v else value_in q xs vs) (other_number x q (λ s. absurd (omega (arith, k, s)))) ∙ value_there q xs vs i a.1 (omega (arith, n)) (omega (arith, l)) e

pub value_nowhere : (q : ℕ) (xs vs : List ℕ) → ((k : ℕ) → k < length xs → slice_index xs k ≢ q) → value_in q xs vs ≡ 0
value_nowhere q [] vs h = refl
value_nowhere q (x ∷ xs) [] h = refl
value_nowhere q (x ∷ xs) (v ∷ vs) h = ap (λ (t : Bool). if t then v else value_in q xs vs) (other_number x q (h 0 (omega arith))) ∙ value_nowhere q xs vs (λ k l. h (suc k) (omega (arith, l)))

-- neither in front of where it would stand nor behind
pub between : (q : ℕ) (xs vs : List ℕ) (i : ℕ) → ((k : ℕ) → k < i → slice_index xs k < q) → ((k : ℕ) → i ≤ k → k < length xs → q < slice_index xs k) → value_in q xs vs ≡ 0
between q xs vs i b g = value_nowhere q xs vs (λ k l e. by_case k l e (cases_lt k i))
  where
    by_case : (k : ℕ) → k < length xs → slice_index xs k ≡ q → (k < i) ⊎ (i ≤ k) → ⊥
    by_case k l e (inl h) = let m = b k h in absurd (omega (arith, m, e))
    by_case k l e (inr h) = let m = g k h l in absurd (omega (arith, m, e))

pub value_small : (q : ℕ) (xs vs : List ℕ) → AreTokens vs → value_in q xs vs ≤ MAX_TOKENS
value_small q [] vs s = omega arith
value_small q (x ∷ xs) [] s = omega arith
value_small q (x ∷ xs) (v ∷ vs) s = by_test (nat_eq x q) (value_small q xs vs s.1)
  where
    by_test : (t : Bool) → value_in q xs vs ≤ MAX_TOKENS → (if t then v else value_in q xs vs) ≤ MAX_TOKENS
    by_test true k = s.0
    by_test false k = k

-- the marking shows it
put_own : (q v : ℕ) (xs : List ℕ) → slice_index (put_at q v xs) q ≡ v
put_own zero v [] = refl
put_own zero v (x ∷ xs) = refl
put_own (suc q) v [] = put_own q v []
put_own (suc q) v (x ∷ xs) = put_own q v xs

put_other : (q p v : ℕ) (xs : List ℕ) → q ≢ p → slice_index (put_at q v xs) p ≡ slice_index xs p
put_other zero zero v xs d = absurd (d refl)
put_other zero (suc p) v [] d = refl
put_other zero (suc p) v (x ∷ xs) d = refl
put_other (suc q) zero v [] d = refl
put_other (suc q) zero v (x ∷ xs) d = refl
put_other (suc q) (suc p) v [] d = put_other q p v [] (λ e. d (ap suc e))
put_other (suc q) (suc p) v (x ∷ xs) d = put_other q p v xs (λ e. d (ap suc e))

not_same : (q p : ℕ) → nat_eq q p ≡ false → q ≢ p
not_same q p t e = absurd (true≢false (sym (number_itself p) ∙ subst (λ (k : ℕ). nat_eq k p ≡ false) e t))

pub shows : (xs vs : List ℕ) (q : ℕ) → slice_index (marking_of xs vs) q ≡ value_in q xs vs
shows [] vs q = refl
shows (x ∷ xs) [] q = refl
shows (x ∷ xs) (v ∷ vs) q = by_test (nat_eq x q) refl (shows xs vs q)
  where
    by_test : (t : Bool) → nat_eq x q ≡ t → slice_index (marking_of xs vs) q ≡ value_in q xs vs → slice_index (put_at x v (marking_of xs vs)) q ≡ (if t then v else value_in q xs vs)
    by_test true is k = subst (λ (p : ℕ). slice_index (put_at x v (marking_of xs vs)) p ≡ v) (same_number x q is) (put_own x v (marking_of xs vs))
    by_test false is k = put_other x q v (marking_of xs vs) (not_same x q is) ∙ k

-- values one by one
pub mapped_small : (f : ℕ → ℕ) (xs : List ℕ) → ((q : ℕ) → f q ≤ MAX_TOKENS) → AreTokens (map f xs)
mapped_small f [] h = tt
mapped_small f (x ∷ xs) h = (h x, mapped_small f xs h)

one_more : (f : ℕ → ℕ) (xs vs : List ℕ) (k : ℕ) → k < length xs → length vs ≡ length xs → slice_set (map f (take k xs) ++ drop k vs) k (f (slice_index xs k)) ≡ map f (take (suc k) xs) ++ drop (suc k) vs
one_more f [] vs k l n = absurd (omega (arith, l))
one_more f (x ∷ xs) [] k l n = absurd (omega (arith, n))
one_more f (x ∷ xs) (v ∷ vs) zero l n = refl
one_more f (x ∷ xs) (v ∷ vs) (suc k) l n = ap (λ (ys : List ℕ). f x ∷ ys) (one_more f xs vs k (omega (arith, l)) (omega (arith, n)))

pub given_more : (f : ℕ → ℕ) (xs vs : List ℕ) (k y : ℕ) → k < length xs → length vs ≡ length xs → y ≡ f (slice_index xs k) → slice_set (map f (take k xs) ++ drop k vs) k y ≡ map f (take (k + 1) xs) ++ drop (k + 1) vs
given_more f xs vs k y l n e =
    ap (λ (z : ℕ). slice_set (map f (take k xs) ++ drop k vs) k z) e
    ∙ (one_more f xs vs k l n
    ∙ sym (ap (λ (m : ℕ). map f (take m xs) ++ drop m vs) (next k)))
  where
    next : (m : ℕ) → m + 1 ≡ suc m
    next m = omega arith

pub given_all : (f : ℕ → ℕ) (xs vs : List ℕ) (k : ℕ) → length xs ≤ k → length vs ≡ length xs → map f (take k xs) ++ drop k vs ≡ map f xs
given_all f [] [] zero l n = refl
given_all f [] [] (suc k) l n = refl
given_all f [] (v ∷ vs) k l n = absurd (omega (arith, n))
given_all f (x ∷ xs) [] k l n = absurd (omega (arith, n))
given_all f (x ∷ xs) (v ∷ vs) zero l n = absurd (omega (arith, l))
given_all f (x ∷ xs) (v ∷ vs) (suc k) l n = ap (λ (ys : List ℕ). f x ∷ ys) (given_all f xs vs k (omega (arith, l)) (omega (arith, n)))

-- zeros one by one
abbrev pub none_of : ℕ → ℕ
none_of q = 0

zeros_split : (ps : List ℕ) (k : ℕ) → k < length ps → map none_of (drop k ps) ≡ 0 ∷ map none_of (drop (suc k) ps)
zeros_split [] k l = absurd (omega (arith, l))
zeros_split (p ∷ ps) zero l = refl
zeros_split (p ∷ ps) (suc k) l = zeros_split ps k (omega (arith, l))

next_is : (k : ℕ) → k + 1 ≡ suc k
next_is k = omega arith

put_more : (vs ps : List ℕ) (k : ℕ) → k < length ps → (vs ++ 0 ∷ []) ++ map none_of (drop (suc k) ps) ≡ vs ++ map none_of (drop k ps)
put_more [] ps k l = sym (zeros_split ps k l)
put_more (v ∷ vs) ps k l = ap (λ (xs : List ℕ). v ∷ xs) (put_more vs ps k l)

pub zero_more : (vs ps : List ℕ) (k : ℕ) → k < length ps → (vs ++ 0 ∷ []) ++ map none_of (drop (k + 1) ps) ≡ vs ++ map none_of (drop k ps)
zero_more vs ps k l = ap (λ (m : ℕ). (vs ++ 0 ∷ []) ++ map none_of (drop m ps)) (next_is k) ∙ put_more vs ps k l

-- shared places one by one
shared_step : (qs : List ℕ) (ss : List Slot) (i : ℕ) (q : PlaceId) → i < length ss → slice_index_or ss i (slot.Private (record { 0 = 0 })) ≡ slot.Shared q → shared_more (added q.0 qs) (map slot_in (drop (suc i) ss)) ≡ shared_more qs (map slot_in (drop i ss))
shared_step qs [] i q l e = absurd (omega (arith, l))
shared_step qs (s ∷ ss) zero q l e = sym (ap (λ (x : Slot). shared_more qs (slot_in x ∷ map slot_in ss)) e)
shared_step qs (s ∷ ss) (suc i) q l e = shared_step qs ss i q (omega (arith, l)) e

pub shared_more_by : (qs : List ℕ) (ss : List Slot) (i : ℕ) (q : PlaceId) → i < length ss → slice_index_or ss i (slot.Private (record { 0 = 0 })) ≡ slot.Shared q → shared_more (added q.0 qs) (map slot_in (drop (i + 1) ss)) ≡ shared_more qs (map slot_in (drop i ss))
shared_more_by qs ss i q l e = ap (λ (m : ℕ). shared_more (added q.0 qs) (map slot_in (drop m ss))) (next_is i) ∙ shared_step qs ss i q l e

private_step : (qs : List ℕ) (ss : List Slot) (i : ℕ) (p : PlaceId) → i < length ss → slice_index_or ss i (slot.Private (record { 0 = 0 })) ≡ slot.Private p → shared_more qs (map slot_in (drop (suc i) ss)) ≡ shared_more qs (map slot_in (drop i ss))
private_step qs [] i p l e = absurd (omega (arith, l))
private_step qs (s ∷ ss) zero p l e = sym (ap (λ (x : Slot). shared_more qs (slot_in x ∷ map slot_in ss)) e)
private_step qs (s ∷ ss) (suc i) p l e = private_step qs ss i p (omega (arith, l)) e

pub private_more_by : (qs : List ℕ) (ss : List Slot) (i : ℕ) (p : PlaceId) → i < length ss → slice_index_or ss i (slot.Private (record { 0 = 0 })) ≡ slot.Private p → shared_more qs (map slot_in (drop (i + 1) ss)) ≡ shared_more qs (map slot_in (drop i ss))
private_more_by qs ss i p l e = ap (λ (m : ℕ). shared_more qs (map slot_in (drop m ss))) (next_is i) ∙ private_step qs ss i p l e
