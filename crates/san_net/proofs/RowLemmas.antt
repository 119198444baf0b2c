-- In how many rows an item is, and that its number tells it.
use Rattle.std.proofs.Common.{◌≡◌, ℕ, ◌+◌, Bool, true, false, not, cond, ◌||◌, List, [], ◌∷◌, ◌++◌, refl, ap, sym, ◌∙◌, arith, map, inl, inr, ◌⊎◌, filter, nat_eq}
use Rattle.std.proofs.Math.Bool.{true≢false}
use Rattle.std.specs.List.{list_any, position_or_len, count_by}
use Rattle.std.specs.Cmp.{IsEquivalence}
use Rattle.std.proofs.lemmas.Bool.{cases_Bool}
use Rattle.std.proofs.lemmas.Bool.Decides.{eqb_tells}
use Rattle.std.proofs.lemmas.List.Folds.{list_any-append}
use Rattle.std.proofs.lemmas.List.Sums.{sum_by-append, sum_by-cons}
use Rattle.san_net.specs.Numbering.{firsts, is_often, ordered, Differ, AreRecorded, all_of, number}
use Rattle.san_net.proofs.SeenLemmas.{none_of, found-same, count-none}

any-split : {K : Type 0} (t p : K → Bool) (xs : List K) → list_any t (filter p xs ++ filter (λ k. not (p k)) xs) ≡ list_any t xs
any-split t p xs = list_any-append t (filter p xs) (filter (λ k. not (p k)) xs) ∙ both xs
  where
    turned : (a b c : Bool) → (b || (a || c)) ≡ (a || (b || c))
    turned true true c = refl
    turned true false c = refl
    turned false b c = refl

    grouped : (a b c : Bool) → ((a || b) || c) ≡ (a || (b || c))
    grouped true b c = refl
    grouped false b c = refl

    one : (x : _) (xs : List _) (b : Bool) → (list_any t (filter p xs) || list_any t (filter (λ k. not (p k)) xs)) ≡ list_any t xs → (list_any t (cond b (x ∷ filter p xs) (filter p xs)) || list_any t (cond (not b) (x ∷ filter (λ k. not (p k)) xs) (filter (λ k. not (p k)) xs))) ≡ (t x || list_any t xs)
    one x xs true h = grouped (t x) (list_any t (filter p xs)) (list_any t (filter (λ k. not (p k)) xs)) ∙ ap (λ b. t x || b) h
    one x xs false h = turned (t x) (list_any t (filter p xs)) (list_any t (filter (λ k. not (p k)) xs)) ∙ ap (λ b. t x || b) h

    both : (xs : List _) → (list_any t (filter p xs) || list_any t (filter (λ k. not (p k)) xs)) ≡ list_any t xs
    both [] = refl
    both (x ∷ xs) = one x xs (p x) (both xs)

module _ {K : Type 0} (E : K → K → Bool) (e : IsEquivalence E) where
  -- no row has an item twice
  abbrev pub EachDiffers : List (List K) → Type 0
  EachDiffers [] = Unit {0}
  EachDiffers (row ∷ rows) = Differ E row × EachDiffers rows

  count-apart : (k : K) (row : List K) → Differ E row → count_by (E k) row ≡ none_of (list_any (E k) row)
  count-apart k [] a = refl
  count-apart k (x ∷ row) a = by_test (cases_Bool (E k x)) (count-apart k row a.1)
    where
      by_test : (E k x ≡ true) ⊎ (E k x ≡ false) → count_by (E k) row ≡ none_of (list_any (E k) row) → count_by (E k) (x ∷ row) ≡ none_of (E k x || list_any (E k) row)
      by_test (inl t) rest =
          let front = sum_by-cons (λ w. none_of (E k w)) x row in
          let none = count-none E e k row (found-same E e k x t row ∙ a.0) in
          let here : none_of (E k x) ≡ 1 = ap none_of t in
          let all : none_of (E k x || list_any (E k) row) ≡ 1 = ap (λ b. none_of (b || list_any (E k) row)) t in
          omega (arith, front, none, here, all)
      by_test (inr t) rest =
          let front = sum_by-cons (λ w. none_of (E k w)) x row in
          let here : none_of (E k x) ≡ 0 = ap none_of t in
          let all : none_of (E k x || list_any (E k) row) ≡ none_of (list_any (E k) row) = ap (λ b. none_of (b || list_any (E k) row)) t in
          omega (arith, front, rest, here, all)

  -- how often an item is in all rows is in how many rows it is
  pub count-rows : (k : K) (rows : List (List K)) → EachDiffers rows → count_by (E k) (all_of rows) ≡ count_by (λ row. list_any (E k) row) rows
  count-rows k [] a = refl
  count-rows k (row ∷ rows) a =
      let front = sum_by-append (λ w. none_of (E k w)) row (all_of rows) in
      let here = count-apart k row a.0 in
      let rest = count-rows k rows a.1 in
      let other = sum_by-cons (λ r. none_of (list_any (E k) r)) row rows in
      omega (arith, front, here, rest, other)

  -- at the same position, found: equal
  position-tells : (h k : K) (ks : List K) → list_any (E h) ks ≡ true → list_any (E k) ks ≡ true → position_or_len (E h) ks ≡ position_or_len (E k) ks → E h k ≡ true
  position-tells h k [] a b s = absurd (true≢false (sym a))
  position-tells h k (x ∷ ks) a b s = by_tests (λ a b s. position-tells h k ks a b s) (cases_Bool (E h x)) (cases_Bool (E k x))
    where
      at : K → ℕ
      at j = position_or_len (E j) (x ∷ ks)

      by_tests : (list_any (E h) ks ≡ true → list_any (E k) ks ≡ true → position_or_len (E h) ks ≡ position_or_len (E k) ks → E h k ≡ true) → (E h x ≡ true) ⊎ (E h x ≡ false) → (E k x ≡ true) ⊎ (E k x ≡ false) → E h k ≡ true
      by_tests rest (inl t) (inl u) = e.congr h x k t ∙ e.symm x k ∙ u
      by_tests rest (inl t) (inr u) =
          let i : position_or_len (E h) (x ∷ ks) ≡ 0 = ap (λ b. cond (not b) (1 + position_or_len (E h) ks) 0) t in
          let j : position_or_len (E k) (x ∷ ks) ≡ 1 + position_or_len (E k) ks = ap (λ b. cond (not b) (1 + position_or_len (E k) ks) 0) u in
          absurd (omega (arith, i, j, s))
      by_tests rest (inr t) (inl u) =
          let i : position_or_len (E h) (x ∷ ks) ≡ 1 + position_or_len (E h) ks = ap (λ b. cond (not b) (1 + position_or_len (E h) ks) 0) t in
          let j : position_or_len (E k) (x ∷ ks) ≡ 0 = ap (λ b. cond (not b) (1 + position_or_len (E k) ks) 0) u in
          absurd (omega (arith, i, j, s))
      by_tests rest (inr t) (inr u) =
          let i : position_or_len (E h) (x ∷ ks) ≡ 1 + position_or_len (E h) ks = ap (λ b. cond (not b) (1 + position_or_len (E h) ks) 0) t in
          let j : position_or_len (E k) (x ∷ ks) ≡ 1 + position_or_len (E k) ks = ap (λ b. cond (not b) (1 + position_or_len (E k) ks) 0) u in
          rest (sym (ap (λ b. b || list_any (E h) ks) t) ∙ a) (sym (ap (λ b. b || list_any (E k) ks) u) ∙ b) (omega (arith, i, j, s))

  position-same : (h k : K) → E h k ≡ true → (ks : List K) → position_or_len (E h) ks ≡ position_or_len (E k) ks
  position-same h k t [] = refl
  position-same h k t (x ∷ ks) = ap (λ b. cond (not b) (1 + position_or_len (E h) ks) 0) (e.congr h k x t) ∙ ap (λ n. cond (not (E k x)) (1 + n) 0) (position-same h k t ks)

  -- two items that are there have one number exactly where they are equal
  pub tells : (ks : List K) (h k : K) → list_any (E h) ks ≡ true → list_any (E k) ks ≡ true → nat_eq (position_or_len (E h) ks) (position_or_len (E k) ks) ≡ E h k
  tells ks h k a b = by_test (cases_Bool (E h k)) (eqb_tells (position_or_len (E h) ks) (position_or_len (E k) ks))
    where
      by_test : (E h k ≡ true) ⊎ (E h k ≡ false) → ((nat_eq (position_or_len (E h) ks) (position_or_len (E k) ks) ≡ true) × (position_or_len (E h) ks ≡ position_or_len (E k) ks)) ⊎ ((nat_eq (position_or_len (E h) ks) (position_or_len (E k) ks) ≡ false) × (position_or_len (E h) ks ≡ position_or_len (E k) ks → ⊥)) → nat_eq (position_or_len (E h) ks) (position_or_len (E k) ks) ≡ E h k
      by_test (inl t) (inl u) = u.0 ∙ sym t
      by_test (inl t) (inr u) = absurd (u.1 (position-same h k t ks))
      by_test (inr t) (inl u) = absurd (true≢false (sym (position-tells h k ks a b u.1) ∙ t))
      by_test (inr t) (inr u) = u.0 ∙ sym t

  -- a row has an item's number exactly where it has the item
  row-numbers : (ks row : List K) (k : K) → list_any (E k) ks ≡ true → ((h : K) → list_any (E h) row ≡ true → list_any (E h) ks ≡ true) → list_any (nat_eq (position_or_len (E k) ks)) (map (λ h. position_or_len (E h) ks) row) ≡ list_any (E k) row
  row-numbers ks [] k a all = refl
  row-numbers ks (h ∷ row) k a all =
      let here = tells ks k h a (all h (ap (λ b. b || list_any (E h) row) (e.refl h))) in
      ap (λ b. b || list_any (nat_eq (position_or_len (E k) ks)) (map (λ h. position_or_len (E h) ks) row)) here ∙ ap (λ b. E k h || b) (row-numbers ks row k a (λ j s. all j (ap (λ b. E j h || b) s ∙ or-right (E j h))))
    where
      or-right : (b : Bool) → (b || true) ≡ true
      or-right true = refl
      or-right false = refl

  -- so the number of rows that have the number is how often the item is in all rows
  pub importers-count : (ks : List K) (rows some : List (List K)) (k : K) → list_any (E k) ks ≡ true → ((h : K) → list_any (E h) (all_of some) ≡ true → list_any (E h) ks ≡ true) → count_by (λ row. list_any (nat_eq (position_or_len (E k) ks)) (map (λ h. position_or_len (E h) ks) row)) some ≡ count_by (λ row. list_any (E k) row) some
  importers-count ks rows [] k a all = refl
  importers-count ks rows (row ∷ some) k a all =
      let front = sum_by-cons (λ r. none_of (list_any (nat_eq (position_or_len (E k) ks)) (map (λ h. position_or_len (E h) ks) r))) row some in
      let other = sum_by-cons (λ r. none_of (list_any (E k) r)) row some in
      let here : none_of _ ≡ none_of (list_any (E k) row) = ap none_of (row-numbers ks row k a (λ h s. all h (list_any-append (E h) row (all_of some) ∙ ap (λ b. b || list_any (E h) (all_of some)) s))) in
      let rest = importers-count ks rows some k a (λ h s. all h (list_any-append (E h) row (all_of some) ∙ ap (λ b. list_any (E h) row || b) s ∙ or-true (list_any (E h) row))) in
      omega (arith, front, other, here, rest)
    where
      or-true : (b : Bool) → (b || true) ≡ true
      or-true true = refl
      or-true false = refl

  pub recorded-importers : (rows : List (List K)) (ks : List K) (amounts : List ℕ) → EachDiffers rows → AreRecorded E (all_of rows) ks amounts → (k : K) → list_any (E k) (all_of rows) ≡ true → count_by (λ row. list_any (nat_eq (number E (all_of rows) k)) (map (number E (all_of rows)) row)) rows ≡ count_by (E k) (all_of rows)
  recorded-importers rows ks amounts a t k h =
      let there : (j : K) → list_any (E j) (all_of rows) ≡ true → list_any (E j) (ordered E (all_of rows)) ≡ true = λ j s. any-split (E j) (is_often E (all_of rows)) (firsts E (all_of rows)) ∙ ap (list_any (E j)) (sym t.keys) ∙ t.all j ∙ s in
      importers-count (ordered E (all_of rows)) rows rows k (there k h) there ∙ sym (count-rows k rows a)
