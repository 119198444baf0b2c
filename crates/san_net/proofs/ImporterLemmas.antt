-- How many leaves have a place.
use Rattle.san_base.proofs.Bools.{or_none, or_second}
use Rattle.std.proofs.Common.{ℕ, zero, suc, ◌+◌, ◌≤◌, ◌<◌, ◌≡◌, ◌∙◌, ap, sym, refl, subst, arith, Bool, true, false, not, cond, ◌||◌, min, nat_eq, fold, List, [], ◌∷◌, ◌++◌, length, filter, ◌⊎◌, inl, inr}
use Rattle.std.specs.List.{count_by}
use Rattle.std.proofs.Math.Bool.{true≢false}
use Rattle.std.proofs.lemmas.Bool.{cases_Bool}
use Rattle.std.proofs.lemmas.Bool.Decides.{eqb_tells}
use Rattle.std.proofs.lemmas.List.{length-map}
use Rattle.std.proofs.lemmas.List.Folds.{list_any-append}
use Rattle.std.proofs.lemmas.List.Sums.{length-filter, sum_by-append, sum_by-cons}
use Rattle.san_net.specs.Apart.{AreApart}
use Rattle.san_net.specs.Laid.{EachPart, IsNetwork, all_places, places_of}
use Rattle.san_net.specs.Network.{Network}
use Rattle.san_net.specs.Numbering.{added, counting, firsts, is_often, repeated}
use Rattle.san_net.specs.Tables.{importers_of}
use Rattle.san_net.specs.declared.part.Part.{Part}
use Rattle.san_net.proofs.LaidLemmas.{has, head_absent, once, tail_apart}
use Rattle.san_net.proofs.SeenLemmas.{none_of}

abbrev Tells : ℕ → ℕ → Type 0
Tells q x = ((nat_eq q x ≡ true) × (q ≡ x)) ⊎ ((nat_eq q x ≡ false) × (q ≡ x → ⊥))

module _ (q : ℕ) where
  count_none : (xs : List ℕ) → has q xs ≡ false → count_by (nat_eq q) xs ≡ 0
  count_none [] h = refl
  count_none (x ∷ xs) h =
      let two = or_none (nat_eq q x) (has q xs) h in
      let all = sum_by-cons (λ y. none_of (nat_eq q y)) x xs in
      let here : none_of (nat_eq q x) ≡ 0 = ap none_of two.0 in
      let rest = count_none xs two.1 in
      omega (arith, all, here, rest)

  -- in a list without repeats an item is once or not at all
  count_apart : (xs : List ℕ) → AreApart xs → count_by (nat_eq q) xs ≡ none_of (has q xs)
  count_apart [] h = refl
  count_apart (x ∷ xs) h = by_test (eqb_tells q x) (count_apart xs (tail_apart x xs h))
    where
      all : count_by (nat_eq q) (x ∷ xs) ≡ none_of (nat_eq q x) + count_by (nat_eq q) xs
      all = sum_by-cons (λ y. none_of (nat_eq q y)) x xs

      by_test : Tells q x → count_by (nat_eq q) xs ≡ none_of (has q xs) → count_by (nat_eq q) (x ∷ xs) ≡ none_of (nat_eq q x || has q xs)
      by_test (inl t) rest =
          let none = count_none xs (ap (λ (n : ℕ). has n xs) t.1 ∙ head_absent x xs h) in
          let one : none_of (nat_eq q x) ≡ 1 = ap none_of t.0 in
          let whole : none_of (nat_eq q x || has q xs) ≡ 1 = ap (λ (b : Bool). none_of (b || has q xs)) t.0 in
          omega (arith, all, one, none, whole)
      by_test (inr t) rest =
          let zero_here : none_of (nat_eq q x) ≡ 0 = ap none_of t.0 in
          let whole : none_of (nat_eq q x || has q xs) ≡ none_of (has q xs) = ap (λ (b : Bool). none_of (b || has q xs)) t.0 in
          omega (arith, all, zero_here, rest, whole)

  count_parts : (parts : List Part) → EachPart parts (λ _ p. AreApart (places_of p)) → count_by (nat_eq q) (all_places parts) ≡ count_by (λ p. has q (places_of p)) parts
  count_parts [] h = refl
  count_parts (p ∷ parts) h =
      let front = sum_by-append (λ y. none_of (nat_eq q y)) (places_of p) (all_places parts) in
      let here = count_apart (places_of p) (h 0 p refl) in
      let other = sum_by-cons (λ (r : Part). none_of (has q (places_of r))) p parts in
      let rest = count_parts parts (λ n r is. h (suc n) r is) in
      omega (arith, front, here, other, rest)

  importers_counted : (parts : List Part) → EachPart parts (λ _ p. AreApart (places_of p)) → length (importers_of parts q) ≡ count_by (nat_eq q) (all_places parts)
  importers_counted parts h =
      let many = length-map (filter (λ (p : Part). has q (places_of p)) parts) (λ (p : Part). p.leaf) in
      let passed = length-filter (λ (p : Part). has q (places_of p)) parts in
      let counted = count_parts parts h in
      omega (arith, many, passed, counted)

  -- what is among those that pass is among all, and passes
  filter_passes : (p : ℕ → Bool) (xs : List ℕ) → has q (filter p xs) ≡ true → (p q ≡ true) × (has q xs ≡ true)
  filter_passes p [] h = absurd (true≢false (sym h))
  filter_passes p (x ∷ xs) h = by_pass (cases_Bool (p x)) (eqb_tells q x) (λ m. filter_passes p xs m)
    where
      by_pass : (p x ≡ true) ⊎ (p x ≡ false) → Tells q x → (has q (filter p xs) ≡ true → (p q ≡ true) × (has q xs ≡ true)) → (p q ≡ true) × (has q (x ∷ xs) ≡ true)
      by_pass (inl y) (inl t) rest = (ap p t.1 ∙ y, ap (λ (b : Bool). b || has q xs) t.0)
      by_pass (inl y) (inr t) rest =
          let there : has q (filter p xs) ≡ true = ap (λ (b : Bool). b || has q (filter p xs)) (sym t.0) ∙ ap (λ (b : Bool). has q (cond b (x ∷ filter p xs) (filter p xs))) (sym y) ∙ h in
          ((rest there).0, or_second (nat_eq q x) (has q xs) (rest there).1)
      by_pass (inr y) t rest =
          let there : has q (filter p xs) ≡ true = ap (λ (b : Bool). has q (cond b (x ∷ filter p xs) (filter p xs))) (sym y) ∙ h in
          ((rest there).0, or_second (nat_eq q x) (has q xs) (rest there).1)

  came_once : (x : ℕ) (ks : List ℕ) (b : Bool) → has q (cond b ks (ks ++ x ∷ [])) ≡ true → (has q ks ≡ true) ⊎ (nat_eq q x ≡ true)
  came_once x ks true h = inl h
  came_once x ks false h = by_test (cases_Bool (has q ks)) (cases_Bool (nat_eq q x))
    where
      by_test : (has q ks ≡ true) ⊎ (has q ks ≡ false) → (nat_eq q x ≡ true) ⊎ (nat_eq q x ≡ false) → (has q ks ≡ true) ⊎ (nat_eq q x ≡ true)
      by_test (inl t) u = inl t
      by_test (inr t) (inl u) = inr u
      by_test (inr t) (inr u) =
          absurd (true≢false (sym h ∙ list_any-append (nat_eq q) ks (x ∷ []) ∙ ap (λ (b : Bool). b || (nat_eq q x || false)) t ∙ ap (λ (b : Bool). b || false) u))

  came : (xs ks : List ℕ) → has q (fold (added nat_eq) ks xs) ≡ true → (has q ks || has q xs) ≡ true
  came [] ks h = ap (λ (b : Bool). b || false) h
  came (x ∷ xs) ks h = by_rest (came xs (added nat_eq ks x) h) (cases_Bool (has q (added nat_eq ks x))) (came_once x ks (has x ks))
    where
      by_now : (has q ks ≡ true) ⊎ (nat_eq q x ≡ true) → (has q ks || (nat_eq q x || has q xs)) ≡ true
      by_now (inl t) = ap (λ (b : Bool). b || (nat_eq q x || has q xs)) t
      by_now (inr t) = or_second (has q ks) (nat_eq q x || has q xs) (ap (λ (b : Bool). b || has q xs) t)

      by_rest : (has q (added nat_eq ks x) || has q xs) ≡ true → (has q (added nat_eq ks x) ≡ true) ⊎ (has q (added nat_eq ks x) ≡ false) → (has q (added nat_eq ks x) ≡ true → (has q ks ≡ true) ⊎ (nat_eq q x ≡ true))
          → (has q ks || has q (x ∷ xs)) ≡ true
      by_rest r (inl t) one = by_now (one t)
      by_rest r (inr t) one = or_second (has q ks) (has q (x ∷ xs)) (or_second (nat_eq q x) (has q xs) (ap (λ (b : Bool). b || has q xs) (sym t) ∙ r))

  front_has : (xs ys : List ℕ) (n m : ℕ) → xs ++ ys ≡ counting n m → n ≤ q → q < n + length xs → has q xs ≡ true
  front_has [] ys n m e low high = absurd (omega (arith, low, high))
  front_has (x ∷ xs) ys n zero e low high = absurd cc
  front_has (x ∷ xs) ys n (suc m) e low high = by_test (eqb_tells q x) (λ l. front_has xs ys (n + 1) m more l (omega (arith, high)))
    where
      here : x ≡ n
      here = cc

      more : xs ++ ys ≡ counting (n + 1) m
      more = cc

      by_test : Tells q x → (n + 1 ≤ q → has q xs ≡ true) → has q (x ∷ xs) ≡ true
      by_test (inl t) rest = ap (λ (b : Bool). b || has q xs) t.0
      by_test (inr t) rest = or_second (nat_eq q x) (has q xs) (rest (omega (arith, low, here, t.1)))

  back_has : (xs ys : List ℕ) (n m : ℕ) → xs ++ ys ≡ counting n m → n + length xs ≤ q → q < n + m → has q ys ≡ true
  back_has [] ys n m e low high = subst (λ (zs : List ℕ). has q zs ≡ true) (sym e) (all_has n m (omega (arith, low)) high)
    where
      all_has : (n m : ℕ) → n ≤ q → q < n + m → has q (counting n m) ≡ true
      all_has n zero low high = absurd (omega (arith, low, high))
      all_has n (suc m) low high = by_here (eqb_tells q n) (λ l. all_has (n + 1) m l (omega (arith, high)))
        where
          by_here : Tells q n → (n + 1 ≤ q → has q (counting (n + 1) m) ≡ true) → has q (counting n (suc m)) ≡ true
          by_here (inl t) rest = ap (λ (b : Bool). b || has q (counting (n + 1) m)) t.0
          by_here (inr t) rest = or_second (nat_eq q n) (has q (counting (n + 1) m)) (rest (omega (arith, low, t.1)))
  back_has (x ∷ xs) ys n zero e low high = absurd cc
  back_has (x ∷ xs) ys n (suc m) e low high = back_has xs ys (n + 1) m more (omega (arith, low)) (omega (arith, high))
    where
      more : xs ++ ys ≡ counting (n + 1) m
      more = cc

  often_is : (c : ℕ) → nat_eq (min c 2) 2 ≡ true → 2 ≤ c
  often_is c h = by_test (eqb_tells (min c 2) 2)
    where
      by_test : Tells (min c 2) 2 → 2 ≤ c
      by_test (inl t) = omega (arith, t.1)
      by_test (inr t) = absurd (true≢false (sym h ∙ t.0))

  rare_is : (c : ℕ) → not (nat_eq (min c 2) 2) ≡ true → c ≤ 1
  rare_is c h = by_test (eqb_tells (min c 2) 2)
    where
      by_test : Tells (min c 2) 2 → c ≤ 1
      by_test (inl t) = absurd (true≢false (sym h ∙ ap not t.0))
      by_test (inr t) = omega (arith, t.1)

  module _ (n : Network) (net : IsNetwork n) where
    abbrev cells : List ℕ
    cells = all_places n.parts

    abbrev rest : List ℕ
    rest = filter (λ k. not (is_often nat_eq cells k)) (firsts nat_eq cells)

    counted : length (importers_of n.parts q) ≡ count_by (nat_eq q) cells
    counted = importers_counted n.parts (λ k p is. (net.slotted k p is).apart)

    pub two_or_more : q < n.shared → 2 ≤ length (importers_of n.parts q)
    two_or_more low =
        let there = front_has (repeated nat_eq cells) rest 0 (length n.initial) net.numbered.places (omega arith) (omega (arith, low, net.shared)) in
        let many = often_is (count_by (nat_eq q) cells) (filter_passes (is_often nat_eq cells) (firsts nat_eq cells) there).0 in
        omega (arith, many, counted)

    pub just_one : n.shared ≤ q → q < length n.initial → length (importers_of n.parts q) ≡ 1
    just_one high within =
        let there = back_has (repeated nat_eq cells) rest 0 (length n.initial) net.numbered.places (omega (arith, high, net.shared)) (omega (arith, within)) in
        let passed = filter_passes (λ k. not (is_often nat_eq cells k)) (firsts nat_eq cells) there in
        let few = rare_is (count_by (nat_eq q) cells) passed.0 in
        let some = once q cells (came cells [] passed.1) in
        omega (arith, few, some, counted)
