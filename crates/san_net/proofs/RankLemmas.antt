-- The numbers of `ranked` are the positions in `ordered`.
use Rattle.san_base.proofs.Bools.{or_none}
use Rattle.std.proofs.Common.{◌≡◌, ℕ, suc, ◌+◌, Bool, true, false, not, cond, ◌||◌, List, [], ◌∷◌, ◌++◌, length, refl, ap, sym, ◌∙◌, subst, arith, min, map, inl, inr, ◌⊎◌, filter, nat_eq, append_assoc, length-append}
use Rattle.std.proofs.Math.Bool.{true≢false}
use Rattle.std.specs.List.{list_any, position_or_len}
use Rattle.std.specs.Cmp.{IsEquivalence}
use Rattle.std.proofs.lemmas.Bool.{cases_Bool}
use Rattle.std.proofs.lemmas.List.Folds.{list_any-append}
use Rattle.std.proofs.lemmas.List.Elements.{filter-append}
use Rattle.san_net.specs.Numbering.{often, is_often, ordered, Differ, AreRecorded, ranked}
use Rattle.san_net.proofs.SeenLemmas.{count-same}

abbrev against : {K : Type 0} → (K → Bool) → K → Bool
against p k = not (p k)

pub any-filter : {K : Type 0} (t p : K → Bool) (xs : List K) → list_any t xs ≡ false → list_any t (filter p xs) ≡ false
any-filter t p [] n = refl
any-filter t p (x ∷ xs) n =
    let two = or_none (t x) (list_any t xs) n in
    kept (p x) (or-both (t x) (list_any t (filter p xs)) two.0 (any-filter t p xs two.1)) (any-filter t p xs two.1)
  where
    or-both : (a b : Bool) → a ≡ false → b ≡ false → (a || b) ≡ false
    or-both a b h i = ap (λ c. c || b) h ∙ i

    kept : (b : Bool) → list_any t (x ∷ filter p xs) ≡ false → list_any t (filter p xs) ≡ false → list_any t (cond b (x ∷ filter p xs) (filter p xs)) ≡ false
    kept true h i = h
    kept false h i = i

module _ {K : Type 0} (E : K → K → Bool) (e : IsEquivalence E) where
  pub position-here : (k : K) (xs ys : List K) → list_any (E k) xs ≡ false → position_or_len (E k) (xs ++ k ∷ ys) ≡ length xs
  position-here k [] ys n = ap (λ b. cond (not b) (1 + position_or_len (E k) ys) 0) (e.refl k)
  position-here k (x ∷ xs) ys n =
      let two = or_none (E k x) (list_any (E k) xs) n in
      let rest = position-here k xs ys two.1 in
      let up : 1 + position_or_len (E k) (xs ++ k ∷ ys) ≡ suc (length xs) = omega (arith, rest) in
      ap (λ b. cond (not b) (1 + position_or_len (E k) (xs ++ k ∷ ys)) 0) two.0 ∙ up

  pub before : (done : List K) (k : K) (ks : List K) → Differ E (done ++ k ∷ ks) → list_any (E k) done ≡ false
  before [] k ks a = refl
  before (d ∷ done) k ks a =
      let two = or_none (list_any (E d) done) (E d k || list_any (E d) ks) (sym (list_any-append (E d) done (k ∷ ks)) ∙ a.0) in
      let one = or_none (E d k) (list_any (E d) ks) two.1 in
      ap (λ b. b || list_any (E k) done) (e.symm k d ∙ one.0) ∙ before done k ks a.1

  pub none-passing : (p : K → Bool) → ((x y : K) → E x y ≡ true → p x ≡ p y) → (k : K) → p k ≡ false → (xs : List K) → list_any (E k) (filter p xs) ≡ false
  none-passing p r k n [] = refl
  none-passing p r k n (x ∷ xs) = kept (none-passing p r k n xs) (cases_Bool (p x)) (cases_Bool (E k x))
    where
      kept : list_any (E k) (filter p xs) ≡ false → (p x ≡ true) ⊎ (p x ≡ false) → (E k x ≡ true) ⊎ (E k x ≡ false) → list_any (E k) (cond (p x) (x ∷ filter p xs) (filter p xs)) ≡ false
      kept i (inr h) s = ap (λ b. list_any (E k) (cond b (x ∷ filter p xs) (filter p xs))) h ∙ i
      kept i (inl h) (inl s) = absurd (true≢false (sym h ∙ sym (r k x s) ∙ n))
      kept i (inl h) (inr s) = ap (λ b. list_any (E k) (cond b (x ∷ filter p xs) (filter p xs))) h ∙ ap (λ b. b || list_any (E k) (filter p xs)) s ∙ i

  abbrev place : (K → Bool) → List K → K → ℕ
  place p all k = position_or_len (E k) (filter p all ++ filter (against p) all)

  place-often : (p : K → Bool) (done : List K) (k : K) (ks all : List K) → all ≡ done ++ k ∷ ks → list_any (E k) done ≡ false → p k ≡ true → place p all k ≡ length (filter p done)
  place-often p done k ks all s b t =
      let front : filter p all ≡ filter p done ++ k ∷ filter p ks = ap (filter p) s ∙ filter-append p done (k ∷ ks) ∙ ap (λ c. filter p done ++ cond c (k ∷ filter p ks) (filter p ks)) t in
      ap (λ xs. position_or_len (E k) (xs ++ filter (against p) all)) front ∙ ap (position_or_len (E k)) (append_assoc (filter p done) (k ∷ filter p ks) (filter (against p) all)) ∙ position-here k (filter p done) (filter p ks ++ filter (against p) all) (any-filter (E k) p done b)

  place-once : (p : K → Bool) → ((x y : K) → E x y ≡ true → p x ≡ p y) → (done : List K) (k : K) (ks all : List K) → all ≡ done ++ k ∷ ks → list_any (E k) done ≡ false → p k ≡ false → place p all k ≡ length (filter p all) + length (filter (against p) done)
  place-once p r done k ks all s b t =
      let back : filter (against p) all ≡ filter (against p) done ++ k ∷ filter (against p) ks = ap (filter (against p)) s ∙ filter-append (against p) done (k ∷ ks) ∙ ap (λ c. filter (against p) done ++ cond (not c) (k ∷ filter (against p) ks) (filter (against p) ks)) t in
      let none : list_any (E k) (filter p all ++ filter (against p) done) ≡ false = list_any-append (E k) (filter p all) (filter (against p) done) ∙ ap (λ c. c || list_any (E k) (filter (against p) done)) (none-passing p r k t all) ∙ any-filter (E k) (against p) done b in
      ap (λ xs. position_or_len (E k) (filter p all ++ xs)) back ∙ ap (position_or_len (E k)) (sym (append_assoc (filter p all) (filter (against p) done) (k ∷ filter (against p) ks))) ∙ position-here k (filter p all ++ filter (against p) done) (filter (against p) ks) none ∙ length-append (filter p all) (filter (against p) done)

  abbrev pub twice : (K → ℕ) → K → Bool
  twice c k = nat_eq (c k) 2

  abbrev Rest : (K → ℕ) → List K → List K → List K → Type 0
  Rest c done ks all = (s q : ℕ) → s ≡ length (filter (twice c) done) → q ≡ length (filter (twice c) all) + length (filter (against (twice c)) done) → ranked s q (map c ks) ≡ map (place (twice c) all) ks

  pushed : (p : K → Bool) (done : List K) (k : K) (b : Bool) → p k ≡ b → length (filter p (done ++ k ∷ [])) ≡ length (filter p done) + cond b 1 0
  pushed p done k true t = ap length (filter-append p done (k ∷ []) ∙ ap (λ c. filter p done ++ cond c (k ∷ []) []) t) ∙ length-append (filter p done) (k ∷ [])
  pushed p done k false t = ap length (filter-append p done (k ∷ []) ∙ ap (λ c. filter p done ++ cond c (k ∷ []) []) t) ∙ length-append (filter p done) []

  step : (c : K → ℕ) → ((x y : K) → E x y ≡ true → twice c x ≡ twice c y) → (done : List K) (k : K) (ks all : List K) → all ≡ done ++ k ∷ ks → list_any (E k) done ≡ false → (s q : ℕ) → s ≡ length (filter (twice c) done) → q ≡ length (filter (twice c) all) + length (filter (against (twice c)) done) → Rest c (done ++ k ∷ []) ks all → (twice c k ≡ true) ⊎ (twice c k ≡ false) → ranked s q (map c (k ∷ ks)) ≡ map (place (twice c) all) (k ∷ ks)
  step c r done k ks all w b s q i j rest (inl t) =
      let m = pushed (twice c) done k true t in
      let n = pushed (against (twice c)) done k false (ap not t) in
      ap (λ o. cond o (s ∷ ranked (s + 1) q (map c ks)) (q ∷ ranked s (q + 1) (map c ks))) t ∙ ap (λ x. x ∷ ranked (s + 1) q (map c ks)) (i ∙ sym (place-often (twice c) done k ks all w b t)) ∙ ap (λ xs. place (twice c) all k ∷ xs) (rest (s + 1) q (omega (arith, i, m)) (omega (arith, j, n)))
  step c r done k ks all w b s q i j rest (inr t) =
      let m = pushed (twice c) done k false t in
      let n = pushed (against (twice c)) done k true (ap not t) in
      ap (λ o. cond o (s ∷ ranked (s + 1) q (map c ks)) (q ∷ ranked s (q + 1) (map c ks))) t ∙ ap (λ x. x ∷ ranked s (q + 1) (map c ks)) (j ∙ sym (place-once (twice c) r done k ks all w b t)) ∙ ap (λ xs. place (twice c) all k ∷ xs) (rest s (q + 1) (omega (arith, i, m)) (omega (arith, j, n)))

  pub ranked-places : (c : K → ℕ) → ((x y : K) → E x y ≡ true → twice c x ≡ twice c y) → (done ks all : List K) → all ≡ done ++ ks → Differ E (done ++ ks) → Rest c done ks all
  ranked-places c r done [] all w a s q i j = refl
  ranked-places c r done (k ∷ ks) all w a s q i j =
      step c r done k ks all w (before done k ks a) s q i j (λ s q i j. ranked-places c r (done ++ k ∷ []) ks all (w ∙ sym (append_assoc done (k ∷ []) ks)) (subst (Differ E) (sym (append_assoc done (k ∷ []) ks)) a) s q i j) (cases_Bool (nat_eq (c k) 2))

  pub respects-often : (xs : List K) (x y : K) → E x y ≡ true → is_often E xs x ≡ is_often E xs y
  respects-often xs x y s = ap (λ n. nat_eq (min n 2) 2) (count-same E e xs x y s)

  pub recorded-ranked : (xs ks : List K) (amounts : List ℕ) → AreRecorded E xs ks amounts → ranked 0 (length (filter (is_often E xs) ks)) amounts ≡ map (λ k. position_or_len (E k) (ordered E xs)) ks
  recorded-ranked xs ks amounts t =
      let r : (x y : K) → E x y ≡ true → twice (often E xs) x ≡ twice (often E xs) y = λ x y s. ap (λ n. nat_eq (min n 2) 2) (count-same E e xs x y s) in
      let q : length (filter (is_often E xs) ks) ≡ length (filter (is_often E xs) ks) + 0 = omega arith in
      ap (ranked 0 (length (filter (is_often E xs) ks))) t.counts ∙ ranked-places (often E xs) r [] ks ks refl t.differ 0 (length (filter (is_often E xs) ks)) refl q ∙ ap (λ all. map (place (is_often E xs) all) ks) t.keys
