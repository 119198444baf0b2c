-- Numbers in place of items: the order of the numbers is the numbers of the order.
use Rattle.san_base.proofs.Bools.{or_right}
use Rattle.std.proofs.Common.{◌≡◌, ℕ, Bool, true, false, not, cond, ◌||◌, List, [], ◌∷◌, ◌++◌, refl, ap, sym, ◌∙◌, subst, arith, min, map, inl, inr, ◌⊎◌, filter, nat_eq, fold}
use Rattle.std.specs.List.{list_any, count_by}
use Rattle.std.specs.Cmp.{IsEquivalence}
use Rattle.std.proofs.lemmas.Bool.{cases_Bool}
use Rattle.std.proofs.lemmas.List.{map-append}
use Rattle.std.proofs.lemmas.List.Sums.{sum_by-cons}
use Rattle.san_net.specs.Numbering.{added, firsts, is_often, ordered}
use Rattle.san_net.proofs.SeenLemmas.{none_of}

module _ {K : Type 0} (E : K → K → Bool) (e : IsEquivalence E) (F : ℕ → ℕ → Bool) (f : K → ℕ) (Has : K → Type 0) (tell : (h k : K) → Has h → Has k → F (f h) (f k) ≡ E h k) where
  abbrev pub AllHave : List K → Type 0
  AllHave [] = Unit {0}
  AllHave (x ∷ xs) = Has x × AllHave xs

  pub have-all : (xs : List K) → ((h : K) → list_any (E h) xs ≡ true → Has h) → AllHave xs
  have-all [] all = tt
  have-all (x ∷ xs) all = (all x (ap (λ b. b || list_any (E x) xs) (e.refl x)), have-all xs (λ k m. all k (ap (λ b. E k x || b) m ∙ or_right (E k x))))

  have-push : (xs : List K) (x : K) → AllHave xs → Has x → AllHave (xs ++ x ∷ [])
  have-push [] x a h = (h, tt)
  have-push (y ∷ xs) x a h = (a.0, have-push xs x a.1 h)

  any-map : (k : K) (xs : List K) → Has k → AllHave xs → list_any (F (f k)) (map f xs) ≡ list_any (E k) xs
  any-map k [] h a = refl
  any-map k (x ∷ xs) h a = ap (λ b. b || list_any (F (f k)) (map f xs)) (tell k x h a.0) ∙ ap (λ b. E k x || b) (any-map k xs h a.1)

  count-map : (k : K) (xs : List K) → Has k → AllHave xs → count_by (F (f k)) (map f xs) ≡ count_by (E k) xs
  count-map k [] h a = refl
  count-map k (x ∷ xs) h a =
      let front = sum_by-cons (λ w. none_of (F (f k) w)) (f x) (map f xs) in
      let other = sum_by-cons (λ w. none_of (E k w)) x xs in
      let here : none_of (F (f k) (f x)) ≡ none_of (E k x) = ap none_of (tell k x h a.0) in
      let rest = count-map k xs h a.1 in
      omega (arith, front, other, here, rest)

  firsts-map : (done xs : List K) → AllHave done → AllHave xs → (fold (added F) (map f done) (map f xs) ≡ map f (fold (added E) done xs)) × AllHave (fold (added E) done xs)
  firsts-map done [] d a = (refl, d)
  firsts-map done (x ∷ xs) d a = by_test (λ d2 e2. firsts-map d2 xs e2 a.1) (cases_Bool (list_any (E x) done))
    where
      Goal : List K → List ℕ → Type 0
      Goal ks ns = (fold (added F) ns (map f xs) ≡ map f (fold (added E) ks xs)) × AllHave (fold (added E) ks xs)

      by_test : ((d2 : List K) → AllHave d2 → (fold (added F) (map f d2) (map f xs) ≡ map f (fold (added E) d2 xs)) × AllHave (fold (added E) d2 xs)) → (list_any (E x) done ≡ true) ⊎ (list_any (E x) done ≡ false) → (fold (added F) (added F (map f done) (f x)) (map f xs) ≡ map f (fold (added E) (added E done x) xs)) × AllHave (fold (added E) (added E done x) xs)
      by_test rest (inl t) =
          let left : added F (map f done) (f x) ≡ map f done = ap (λ b. cond b (map f done) (map f done ++ f x ∷ [])) (any-map x done a.0 d ∙ t) in
          let right : added E done x ≡ done = ap (λ b. cond b done (done ++ x ∷ [])) t in
          let r = rest done d in
          (ap (λ ns. fold (added F) ns (map f xs)) left ∙ r.0 ∙ ap (λ ks. map f (fold (added E) ks xs)) (sym right), subst (λ ks. AllHave (fold (added E) ks xs)) (sym right) r.1)
      by_test rest (inr t) =
          let left : added F (map f done) (f x) ≡ map f (done ++ x ∷ []) = ap (λ b. cond b (map f done) (map f done ++ f x ∷ [])) (any-map x done a.0 d ∙ t) ∙ sym (map-append f done (x ∷ [])) in
          let right : added E done x ≡ done ++ x ∷ [] = ap (λ b. cond b done (done ++ x ∷ [])) t in
          let r = rest (done ++ x ∷ []) (have-push done x d a.0) in
          (ap (λ ns. fold (added F) ns (map f xs)) left ∙ r.0 ∙ ap (λ ks. map f (fold (added E) ks xs)) (sym right), subst (λ ks. AllHave (fold (added E) ks xs)) (sym right) r.1)

  filter-map : (p : ℕ → Bool) (q : K → Bool) → ((k : K) → Has k → p (f k) ≡ q k) → (xs : List K) → AllHave xs → filter p (map f xs) ≡ map f (filter q xs)
  filter-map p q s [] a = refl
  filter-map p q s (x ∷ xs) a = ap (λ b. cond b (f x ∷ filter p (map f xs)) (filter p (map f xs))) (s x a.0) ∙ ap (λ ns. cond (q x) (f x ∷ ns) ns) (filter-map p q s xs a.1) ∙ out (q x)
    where
      out : (b : Bool) → cond b (f x ∷ map f (filter q xs)) (map f (filter q xs)) ≡ map f (cond b (x ∷ filter q xs) (filter q xs))
      out true = refl
      out false = refl

  pub ordered-map : (xs : List K) → AllHave xs → ordered F (map f xs) ≡ map f (ordered E xs)
  ordered-map xs a =
      let r = firsts-map [] xs tt a in
      let often-same : (k : K) → Has k → is_often F (map f xs) (f k) ≡ is_often E xs k = λ k h. ap (λ n. nat_eq (min n 2) 2) (count-map k xs h a) in
      let rare-same : (k : K) → Has k → not (is_often F (map f xs) (f k)) ≡ not (is_often E xs k) = λ k h. ap not (often-same k h) in
      ap (λ ns. filter (is_often F (map f xs)) ns ++ filter (λ k. not (is_often F (map f xs) k)) ns) r.0 ∙ ap (λ ns. ns ++ filter (λ k. not (is_often F (map f xs) k)) (map f (firsts E xs))) (filter-map (is_often F (map f xs)) (is_often E xs) often-same (firsts E xs) r.1) ∙ ap (λ ns. map f (filter (is_often E xs) (firsts E xs)) ++ ns) (filter-map (λ k. not (is_often F (map f xs) k)) (λ k. not (is_often E xs k)) rare-same (firsts E xs) r.1) ∙ sym (map-append f (filter (is_often E xs) (firsts E xs)) (filter (λ k. not (is_often E xs k)) (firsts E xs)))
