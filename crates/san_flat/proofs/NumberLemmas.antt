-- The numbers of homes: each home has one, those of the places in order count from 0, the repeated ones come first.
use Rattle.san_base.proofs.Bools.{both_true, or_right}
use Rattle.std.proofs.Common.{◌≡◌, ℕ, suc, ◌+◌, Bool, true, false, not, cond, ◌&&◌, ◌||◌, List, [], ◌∷◌, ◌++◌, length, refl, ap, sym, ◌∙◌, subst, arith, map, filter, min, nat_eq, inl, inr, ◌⊎◌, append-nil, append_assoc, Some}
use Rattle.std.specs.Prelude.{slice_get}
use Rattle.std.specs.List.{count_by, list_any, position_or_len}
use Rattle.std.specs.Cmp.Lexicographic.{pointwise}
use Rattle.std.proofs.Math.Bool.{true≢false}
use Rattle.std.proofs.lemmas.Bool.{cases_Bool, eq-eqb, eqb-true}
use Rattle.std.proofs.lemmas.List.Folds.{list_any-append}
use Rattle.std.proofs.lemmas.List.Sums.{sum_by-append, sum_by-cons}
use Rattle.san_flat.proofs.HomeLemmas.{same-equiv}
use Rattle.san_flat.specs.Homes.{CellHome, same}
use Rattle.san_net.proofs.CountingLemmas.{recorded-range}
use Rattle.san_net.proofs.RenumberLemmas.{have-all, ordered-map}
use Rattle.san_net.proofs.RowLemmas.{tells}
use Rattle.san_net.proofs.SeenLemmas.{none_of, recorded-again, recorded-new}
use Rattle.san_net.specs.Numbering.{AreRecorded, counting, firsts, is_often, number, ordered, repeated}

-- homes that are one are equal
paths-same : (a b : List ℕ) → pointwise nat_eq a b ≡ true → a ≡ b
paths-same [] [] h = refl
paths-same [] (y ∷ ys) h = absurd (true≢false (sym h))
paths-same (x ∷ xs) [] h = absurd (true≢false (sym h))
paths-same (x ∷ xs) (y ∷ ys) h =
    let two = both_true (nat_eq x y) (pointwise nat_eq xs ys) h in
    ap (λ k. k ∷ xs) (eqb-true x y two.0) ∙ ap (λ ks. y ∷ ks) (paths-same xs ys two.1)

abbrev home_with : List ℕ → ℕ → ℕ → CellHome
home_with path place element = record { path = path; place = place; element = element }

pub same-is : (a b : CellHome) → same a b ≡ true → a ≡ b
same-is a b h =
    let two = both_true (pointwise nat_eq a.path b.path) (nat_eq a.place b.place && nat_eq a.element b.element) h in
    let more = both_true (nat_eq a.place b.place) (nat_eq a.element b.element) two.1 in
    ap (λ p. home_with p a.place a.element) (paths-same a.path b.path two.0) ∙ ap (λ p. home_with b.path p a.element) (eqb-true a.place b.place more.0) ∙ ap (λ e. home_with b.path b.place e) (eqb-true a.element b.element more.1)

-- homes seen one by one: what is known of them in the end
record Recorded (xs : List CellHome) : Type 0 where
  keys : List CellHome
  counts : List ℕ
  recorded : AreRecorded same xs keys counts

recorded-from : (done ks : List CellHome) (counts : List ℕ) (xs : List CellHome) → AreRecorded same done ks counts → Recorded (done ++ xs)
recorded-from done ks counts [] t = subst Recorded (sym (append-nil done)) (record { keys = ks; counts = counts; recorded = t })
recorded-from done ks counts (x ∷ xs) t = subst Recorded (append_assoc done (x ∷ []) xs) (by_test (λ k c n. recorded-from (done ++ x ∷ []) k c xs n) (cases_Bool (list_any (same x) ks)))
  where
    by_test : ((k : List CellHome) (c : List ℕ) → AreRecorded same (done ++ x ∷ []) k c → Recorded ((done ++ x ∷ []) ++ xs)) → (list_any (same x) ks ≡ true) ⊎ (list_any (same x) ks ≡ false) → Recorded ((done ++ x ∷ []) ++ xs)
    by_test rest (inl there) = rest _ _ (recorded-again same same-equiv done ks counts x there t)
    by_test rest (inr new) = rest _ _ (recorded-new same same-equiv done ks counts x new t)

recorded-all : (xs : List CellHome) → Recorded xs
recorded-all xs = recorded-from [] [] [] xs (record { keys = refl; counts = refl; differ = tt; all = λ k. refl })

-- the two groups of an order have what its items have
any-split : (t p : CellHome → Bool) (xs : List CellHome) → list_any t (filter p xs ++ filter (λ k. not (p k)) xs) ≡ list_any t xs
any-split t p xs = list_any-append t (filter p xs) (filter (λ k. not (p k)) xs) ∙ both xs
  where
    step : (b e : Bool) (x : CellHome) (ks ns : List CellHome) → (list_any t ks || list_any t ns) ≡ e → (list_any t (cond b (x ∷ ks) ks) || list_any t (cond (not b) (x ∷ ns) ns)) ≡ (t x || e)
    step true e x ks ns h = or_assoc (t x) (list_any t ks) (list_any t ns) ∙ ap (λ z. t x || z) h
      where
        or_assoc : (a b c : Bool) → ((a || b) || c) ≡ (a || (b || c))
        or_assoc true b c = refl
        or_assoc false b c = refl
    step false e x ks ns h = or_swap (list_any t ks) (t x) (list_any t ns) ∙ ap (λ z. t x || z) h
      where
        or_swap : (a b c : Bool) → (a || (b || c)) ≡ (b || (a || c))
        or_swap true true c = refl
        or_swap true false c = refl
        or_swap false b c = refl

    both : (ys : List CellHome) → (list_any t (filter p ys) || list_any t (filter (λ k. not (p k)) ys)) ≡ list_any t ys
    both [] = refl
    both (y ∷ ys) = step (p y) (list_any t ys) y (filter p ys) (filter (λ k. not (p k)) ys) (both ys)

pub in-ordered : (xs : List CellHome) (k : CellHome) → list_any (same k) xs ≡ true → list_any (same k) (ordered same xs) ≡ true
in-ordered xs k h =
    let t = (recorded-all xs).recorded in
    any-split (same k) (is_often same xs) (firsts same xs) ∙ ap (list_any (same k)) (sym t.keys) ∙ t.all k ∙ h

-- the numbers in order count from 0
pub numbers-count : (xs : List CellHome) → ordered nat_eq (map (number same xs) xs) ≡ counting 0 (length (ordered same xs))
numbers-count xs =
    let Has : CellHome → Type 0 = λ h. list_any (same h) (ordered same xs) ≡ true in
    let tell : (h k : CellHome) → Has h → Has k → nat_eq (number same xs h) (number same xs k) ≡ same h k = λ h k m n. tells same same-equiv (ordered same xs) h k m n in
    ordered-map same same-equiv nat_eq (number same xs) Has tell xs (have-all same same-equiv nat_eq (number same xs) Has tell xs (in-ordered xs))
    ∙ recorded-range same same-equiv xs (recorded-all xs).keys (recorded-all xs).counts (recorded-all xs).recorded

-- as many of some numbers pass a test as of the homes that have them pass theirs
pub count-through : (f : CellHome → ℕ) (p : ℕ → Bool) (q : CellHome → Bool) (zs : List CellHome) → ((k : CellHome) → list_any (same k) zs ≡ true → p (f k) ≡ q k) → count_by p (map f zs) ≡ count_by q zs
count-through f p q [] h = refl
count-through f p q (z ∷ zs) h =
    let front = sum_by-cons (λ w. none_of (p w)) (f z) (map f zs) in
    let other = sum_by-cons (λ w. none_of (q w)) z zs in
    let here : none_of (p (f z)) ≡ none_of (q z) = ap none_of (h z (ap (λ b. b || list_any (same z) zs) (same-equiv.refl z))) in
    let rest = count-through f p q zs (λ k t. h k (ap (λ b. same k z || b) t ∙ or_right (same k z))) in
    omega (arith, front, other, here, rest)

module _ {X : Type 0} (p : X → Bool) where
  all-pass : (xs : List X) → count_by p (filter p xs) ≡ length (filter p xs)
  all-pass [] = refl
  all-pass (x ∷ xs) = by_test (all-pass xs) (cases_Bool (p x))
    where
      by_test : count_by p (filter p xs) ≡ length (filter p xs) → (p x ≡ true) ⊎ (p x ≡ false) → count_by p (filter p (x ∷ xs)) ≡ length (filter p (x ∷ xs))
      by_test rest (inl t) =
          let is : filter p (x ∷ xs) ≡ x ∷ filter p xs = ap (λ b. cond b (x ∷ filter p xs) (filter p xs)) t in
          let front = sum_by-cons (λ w. none_of (p w)) x (filter p xs) in
          let here : none_of (p x) ≡ 1 = ap none_of t in
          let more : count_by p (x ∷ filter p xs) ≡ length (x ∷ filter p xs) = omega (arith, front, here, rest) in
          ap (count_by p) is ∙ more ∙ ap length (sym is)
      by_test rest (inr t) =
          let is : filter p (x ∷ xs) ≡ filter p xs = ap (λ b. cond b (x ∷ filter p xs) (filter p xs)) t in
          ap (count_by p) is ∙ rest ∙ ap length (sym is)

  none-pass : (xs : List X) → count_by p (filter (λ k. not (p k)) xs) ≡ 0
  none-pass [] = refl
  none-pass (x ∷ xs) = by_test (none-pass xs) (cases_Bool (p x))
    where
      by_test : count_by p (filter (λ k. not (p k)) xs) ≡ 0 → (p x ≡ true) ⊎ (p x ≡ false) → count_by p (filter (λ k. not (p k)) (x ∷ xs)) ≡ 0
      by_test rest (inl t) = ap (λ b. count_by p (cond (not b) (x ∷ filter (λ k. not (p k)) xs) (filter (λ k. not (p k)) xs))) t ∙ rest
      by_test rest (inr t) =
          let front = sum_by-cons (λ w. none_of (p w)) x (filter (λ k. not (p k)) xs) in
          let here : none_of (p x) ≡ 0 = ap none_of t in
          let more : count_by p (x ∷ filter (λ k. not (p k)) xs) ≡ 0 = omega (arith, front, here, rest) in
          ap (λ b. count_by p (cond (not b) (x ∷ filter (λ k. not (p k)) xs) (filter (λ k. not (p k)) xs))) t ∙ more

  pass-counted : (xs : List X) → count_by p (filter p xs ++ filter (λ k. not (p k)) xs) ≡ length (filter p xs)
  pass-counted xs =
      let both = sum_by-append (λ w. none_of (p w)) (filter p xs) (filter (λ k. not (p k)) xs) in
      omega (arith, both, all-pass xs, none-pass xs)

-- as many numbers are repeated as homes
pub repeated-count : (xs : List CellHome) → length (repeated nat_eq (map (number same xs) xs)) ≡ length (repeated same xs)
repeated-count xs =
    let f : CellHome → ℕ = number same xs in
    let Has : CellHome → Type 0 = λ h. list_any (same h) (ordered same xs) ≡ true in
    let tell : (h k : CellHome) → Has h → Has k → nat_eq (f h) (f k) ≡ same h k = λ h k m n. tells same same-equiv (ordered same xs) h k m n in
    let often : (k : CellHome) → Has k → is_often nat_eq (map f xs) (f k) ≡ is_often same xs k = λ k m. ap (λ n. nat_eq (min n 2) 2) (count-through f (nat_eq (f k)) (same k) xs (λ x t. tell k x m (in-ordered xs x t))) in
    let order : ordered nat_eq (map f xs) ≡ map f (ordered same xs) = ordered-map same same-equiv nat_eq f Has tell xs (have-all same same-equiv nat_eq f Has tell xs (in-ordered xs)) in
    sym (pass-counted (is_often nat_eq (map f xs)) (firsts nat_eq (map f xs)))
    ∙ ap (count_by (is_often nat_eq (map f xs))) order
    ∙ count-through f (is_often nat_eq (map f xs)) (is_often same xs) (ordered same xs) often
    ∙ pass-counted (is_often same xs) (firsts same xs)

-- homes that are there and have one number are one
pub numbers-tell : (xs : List CellHome) (h k : CellHome) → list_any (same h) xs ≡ true → list_any (same k) xs ≡ true → number same xs h ≡ number same xs k → h ≡ k
numbers-tell xs h k a b e = same-is h k (sym (tells same same-equiv (ordered same xs) h k (in-ordered xs h a) (in-ordered xs k b)) ∙ eq-eqb (number same xs h) (number same xs k) e)

-- a home stands at its number in the order
pub at-number : (ks : List CellHome) (h : CellHome) → list_any (same h) ks ≡ true → slice_get ks (position_or_len (same h) ks) ≡ Some h
at-number [] h n = absurd (true≢false (sym n))
at-number (k ∷ ks) h n = by_test (λ t. at-number ks h t) (cases_Bool (same h k))
  where
    by_test : (list_any (same h) ks ≡ true → slice_get ks (position_or_len (same h) ks) ≡ Some h) → (same h k ≡ true) ⊎ (same h k ≡ false) → slice_get (k ∷ ks) (position_or_len (same h) (k ∷ ks)) ≡ Some h
    by_test rest (inl t) =
        let at : position_or_len (same h) (k ∷ ks) ≡ 0 = ap (λ b. cond (not b) (1 + position_or_len (same h) ks) 0) t in
        ap (slice_get (k ∷ ks)) at ∙ ap Some (sym (same-is h k t))
    by_test rest (inr t) =
        let up : 1 + position_or_len (same h) ks ≡ suc (position_or_len (same h) ks) = omega arith in
        let at : position_or_len (same h) (k ∷ ks) ≡ suc (position_or_len (same h) ks) = ap (λ b. cond (not b) (1 + position_or_len (same h) ks) 0) t ∙ up in
        ap (slice_get (k ∷ ks)) at ∙ rest (sym (ap (λ b. b || list_any (same h) ks) t) ∙ n)
