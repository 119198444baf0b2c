-- The numbers of the places, in order, are 0, 1, 2 and so on; those below `shared` are of what is often there.
use Rattle.std.proofs.Common.{◌≡◌, ℕ, ◌+◌, Bool, true, false, not, cond, ◌||◌, List, [], ◌∷◌, ◌++◌, length, refl, ap, sym, ◌∙◌, subst, arith, map, filter, append_assoc, length-append}
use Rattle.std.proofs.Math.Bool.{true≢false}
use Rattle.std.specs.List.{list_any, position_or_len}
use Rattle.std.specs.Cmp.{IsEquivalence}
use Rattle.std.proofs.lemmas.List.Folds.{list_any-append}
use Rattle.san_net.specs.Numbering.{Differ, firsts, is_often, ordered, number, AreRecorded, counting}
use Rattle.san_net.proofs.RankLemmas.{before, position-here, none-passing, any-filter, respects-often}

module _ {K : Type 0} (E : K → K → Bool) (e : IsEquivalence E) where
  positions : (done ks all : List K) → all ≡ done ++ ks → Differ E (done ++ ks) → (n : ℕ) → n ≡ length done → map (λ k. position_or_len (E k) all) ks ≡ counting n (length ks)
  positions done [] all w a n i = refl
  positions done (k ∷ ks) all w a n i =
      let here : position_or_len (E k) all ≡ n = ap (position_or_len (E k)) w ∙ position-here E e k done ks (before E e done k ks a) ∙ sym i in
      let more : n + 1 ≡ length (done ++ k ∷ []) = omega (arith, i, length-append done (k ∷ [])) in
      ap (λ x. x ∷ map (λ k. position_or_len (E k) all) ks) here ∙ ap (λ xs. n ∷ xs) (positions (done ++ k ∷ []) ks all (w ∙ sym (append_assoc done (k ∷ []) ks)) (subst (Differ E) (sym (append_assoc done (k ∷ []) ks)) a) (n + 1) more)

  apart-filter : (p : K → Bool) (ks : List K) → Differ E ks → Differ E (filter p ks)
  apart-filter p [] a = tt
  apart-filter p (k ∷ ks) a = kept (p k) (any-filter (E k) p ks a.0) (apart-filter p ks a.1)
    where
      kept : (b : Bool) → list_any (E k) (filter p ks) ≡ false → Differ E (filter p ks) → Differ E (cond b (k ∷ filter p ks) (filter p ks))
      kept true n r = (n, r)
      kept false n r = r

  apart-append : (xs ys : List K) → Differ E xs → Differ E ys → ((k : K) → list_any (E k) xs ≡ true → list_any (E k) ys ≡ false) → Differ E (xs ++ ys)
  apart-append [] ys a b h = b
  apart-append (x ∷ xs) ys a b h =
      (list_any-append (E x) xs ys ∙ ap (λ c. c || list_any (E x) ys) a.0 ∙ h x (ap (λ c. c || list_any (E x) xs) (e.refl x)), apart-append xs ys a.1 b (λ k m. h k (ap (λ c. E k x || c) m ∙ or-right (E k x))))
    where
      or-right : (b : Bool) → (b || true) ≡ true
      or-right true = refl
      or-right false = refl

  passes : (p : K → Bool) → ((x y : K) → E x y ≡ true → p x ≡ p y) → (k : K) (ks : List K) → list_any (E k) (filter p ks) ≡ true → p k ≡ true
  passes p r k ks m = by_value (p k) refl
    where
      by_value : (b : Bool) → p k ≡ b → p k ≡ true
      by_value true t = t
      by_value false t = absurd (true≢false (sym m ∙ none-passing E e p r k t ks))

  apart-ordered : (p : K → Bool) → ((x y : K) → E x y ≡ true → p x ≡ p y) → (ks : List K) → Differ E ks → Differ E (filter p ks ++ filter (λ k. not (p k)) ks)
  apart-ordered p r ks a =
      apart-append (filter p ks) (filter (λ k. not (p k)) ks) (apart-filter p ks a) (apart-filter (λ k. not (p k)) ks a) (λ k m. none-passing E e (λ k. not (p k)) (λ x y s. ap not (r x y s)) k (ap not (passes p r k ks m)) ks)

  pub recorded-range : (xs ks : List K) (amounts : List ℕ) → AreRecorded E xs ks amounts → map (number E xs) (ordered E xs) ≡ counting 0 (length (ordered E xs))
  recorded-range xs ks amounts t =
      positions [] (ordered E xs) (ordered E xs) refl (apart-ordered (is_often E xs) (respects-often E e xs) (firsts E xs) (subst (Differ E) t.keys t.differ)) 0 refl
