-- What one more item changes.
use Rattle.san_base.proofs.Bools.{or_none}
use Rattle.std.proofs.Common.{◌≡◌, ℕ, suc, ◌+◌, Bool, true, false, not, cond, ◌||◌, List, [], ◌∷◌, ◌++◌, refl, ap, sym, ◌∙◌, subst, arith, min, map, inl, inr, ◌⊎◌, set, get_or}
use Rattle.std.proofs.Math.Bool.{true≢false}
use Rattle.std.specs.List.{list_any, count_by, position_or_len}
use Rattle.std.specs.Cmp.{IsEquivalence}
use Rattle.std.proofs.lemmas.Bool.{cases_Bool}
use Rattle.std.proofs.lemmas.List.Folds.{list_any-append}
use Rattle.std.proofs.lemmas.List.Sums.{fold-append, sum_by-append, sum_by-cons}
use Rattle.std.proofs.lemmas.List.{map-append}
use Rattle.san_net.specs.Numbering.{added, firsts, often, Differ, AreRecorded}

abbrev pub none_of : Bool → ℕ
none_of b = cond b 1 0

pub list_any-map : {X Y : Type 0} (f : X → Y) (p : Y → Bool) (xs : List X) → list_any p (map f xs) ≡ list_any (λ x. p (f x)) xs
list_any-map f p [] = refl
list_any-map f p (x ∷ xs) = ap (λ b. p (f x) || b) (list_any-map f p xs)

pub position-map : {X Y : Type 0} (f : X → Y) (p : Y → Bool) (xs : List X) → position_or_len p (map f xs) ≡ position_or_len (λ x. p (f x)) xs
position-map f p [] = refl
position-map f p (x ∷ xs) = ap (λ n. cond (not (p (f x))) (1 + n) 0) (position-map f p xs)

list_any-same : {X : Type 0} (p q : X → Bool) → ((x : X) → p x ≡ q x) → (xs : List X) → list_any p xs ≡ list_any q xs
list_any-same p q h [] = refl
list_any-same p q h (x ∷ xs) = ap (λ b. b || list_any p xs) (h x) ∙ ap (λ b. q x || b) (list_any-same p q h xs)

module _ {K : Type 0} (E : K → K → Bool) (e : IsEquivalence E) where
  -- equal items are found in the same lists
  pub found-same : (h k : K) → E h k ≡ true → (ks : List K) → list_any (E h) ks ≡ list_any (E k) ks
  found-same h k s ks = list_any-same (E h) (E k) (λ z. e.congr h k z s) ks

  apart-push : (ks : List K) (h : K) → Differ E ks → list_any (E h) ks ≡ false → Differ E (ks ++ h ∷ [])
  apart-push [] h a n = (refl, tt)
  apart-push (k ∷ ks) h a n =
      let two = or_none (E h k) (list_any (E h) ks) n in
      (list_any-append (E k) ks (h ∷ []) ∙ ap (λ b. b || (E k h || false)) a.0 ∙ ap (λ b. b || false) (e.symm k h ∙ two.0), apart-push ks h a.1 two.1)

  -- a change of the value at the item equal to h alone
  unmarked : (f g : K → ℕ) (h : K) → ((k : K) → E h k ≡ false → g k ≡ f k) → (ks : List K) → list_any (E h) ks ≡ false → map g ks ≡ map f ks
  unmarked f g h miss [] n = refl
  unmarked f g h miss (k ∷ ks) n =
      let two = or_none (E h k) (list_any (E h) ks) n in
      ap (λ x. x ∷ map g ks) (miss k two.0) ∙ ap (λ xs. f k ∷ xs) (unmarked f g h miss ks two.1)

  abbrev IsMarked : (K → ℕ) → (K → ℕ) → (ℕ → ℕ) → List K → ℕ → Type 0
  IsMarked f g more ks i = map g ks ≡ set (map f ks) i (more (get_or (map f ks) i 0))

  marked-front : (f g : K → ℕ) (more : ℕ → ℕ) (h : K) → ((k : K) → E h k ≡ true → g k ≡ more (f k)) → ((k : K) → E h k ≡ false → g k ≡ f k) → (k : K) (ks : List K) → list_any (E k) ks ≡ false → (list_any (E h) ks ≡ true → IsMarked f g more ks (position_or_len (E h) ks)) → list_any (E h) (k ∷ ks) ≡ true → (E h k ≡ true) ⊎ (E h k ≡ false) → IsMarked f g more (k ∷ ks) (position_or_len (E h) (k ∷ ks))
  marked-front f g more h hit miss k ks a rest n (inl t) =
      let at : position_or_len (E h) (k ∷ ks) ≡ 0 = ap (λ b. cond (not b) (1 + position_or_len (E h) ks) 0) t in
      subst (IsMarked f g more (k ∷ ks)) (sym at) (ap (λ x. x ∷ map g ks) (hit k t) ∙ ap (λ xs. more (f k) ∷ xs) (unmarked f g h miss ks (found-same h k t ks ∙ a)))
  marked-front f g more h hit miss k ks a rest n (inr t) =
      let up : 1 + position_or_len (E h) ks ≡ suc (position_or_len (E h) ks) = omega arith in
      let at : position_or_len (E h) (k ∷ ks) ≡ suc (position_or_len (E h) ks) = ap (λ b. cond (not b) (1 + position_or_len (E h) ks) 0) t ∙ up in
      subst (IsMarked f g more (k ∷ ks)) (sym at) (ap (λ x. x ∷ map g ks) (miss k t) ∙ ap (λ xs. f k ∷ xs) (rest (sym (ap (λ b. b || list_any (E h) ks) t) ∙ n)))

  pub marked : (f g : K → ℕ) (more : ℕ → ℕ) (h : K) → ((k : K) → E h k ≡ true → g k ≡ more (f k)) → ((k : K) → E h k ≡ false → g k ≡ f k) → (ks : List K) → Differ E ks → list_any (E h) ks ≡ true → IsMarked f g more ks (position_or_len (E h) ks)
  marked f g more h hit miss [] a n = absurd (true≢false (sym n))
  marked f g more h hit miss (k ∷ ks) a n = marked-front f g more h hit miss k ks a.0 (λ m. marked f g more h hit miss ks a.1 m) n (cases_Bool (E h k))

  count-push : (xs : List K) (h k : K) → count_by (E k) (xs ++ h ∷ []) ≡ count_by (E k) xs + cond (E k h) 1 0
  count-push xs h k = sum_by-append (λ x. cond (E k x) 1 0) xs (h ∷ []) ∙ omega arith

  pub count-none : (h : K) (xs : List K) → list_any (E h) xs ≡ false → count_by (E h) xs ≡ 0
  count-none h [] n = refl
  count-none h (x ∷ xs) n =
      let two = or_none (E h x) (list_any (E h) xs) n in
      let front = sum_by-cons (λ y. cond (E h y) 1 0) x xs in
      let rest = count-none h xs two.1 in
      let here : none_of (E h x) ≡ 0 = ap none_of two.0 in
      omega (arith, front, here, rest)

  often-hit : (xs : List K) (h k : K) → E h k ≡ true → often E (xs ++ h ∷ []) k ≡ min (often E xs k) 1 + 1
  often-hit xs h k t =
      let c = count-push xs h k in
      let one : none_of (E k h) ≡ 1 = ap none_of (e.symm k h ∙ t) in
      omega (arith, c, one)

  often-miss : (xs : List K) (h k : K) → E h k ≡ false → often E (xs ++ h ∷ []) k ≡ often E xs k
  often-miss xs h k t =
      let c = count-push xs h k in
      let none : none_of (E k h) ≡ 0 = ap none_of (e.symm k h ∙ t) in
      omega (arith, c, none)

  firsts-push : (xs : List K) (h : K) → firsts E (xs ++ h ∷ []) ≡ added E (firsts E xs) h
  firsts-push xs h = fold-append (added E) [] xs (h ∷ [])

  any-push : (xs : List K) (h k : K) → list_any (E k) (xs ++ h ∷ []) ≡ (list_any (E k) xs || (E k h || false))
  any-push xs h k = list_any-append (E k) xs (h ∷ [])

  or-absorbed : (a b : Bool) → (b ≡ true → a ≡ true) → a ≡ (a || (b || false))
  or-absorbed true b h = refl
  or-absorbed false true h = absurd (true≢false (sym (h refl)))
  or-absorbed false false h = refl

  -- an item that isn't there yet
  pub recorded-new : (xs ks : List K) (amounts : List ℕ) (h : K) → list_any (E h) ks ≡ false → AreRecorded E xs ks amounts → AreRecorded E (xs ++ h ∷ []) (ks ++ h ∷ []) (amounts ++ 1 ∷ [])
  recorded-new xs ks amounts h n t =
      let none = count-none h xs (sym (t.all h) ∙ n) in
      let own : often E (xs ++ h ∷ []) h ≡ 1 =
      let c = count-push xs h h in
      let one : none_of (E h h) ≡ 1 = ap none_of (e.refl h) in
      omega (arith, c, one, none) in
      record {
        keys = ap (λ k. k ++ h ∷ []) t.keys ∙ sym (firsts-push xs h ∙ ap (λ b. cond b (firsts E xs) (firsts E xs ++ h ∷ [])) (ap (list_any (E h)) (sym t.keys) ∙ n));
        counts = ap (λ c. c ++ 1 ∷ []) (t.counts ∙ sym (unmarked (often E xs) (often E (xs ++ h ∷ [])) h (often-miss xs h) ks n)) ∙ ap (λ o. map (often E (xs ++ h ∷ [])) ks ++ o ∷ []) (sym own) ∙ sym (map-append (often E (xs ++ h ∷ [])) ks (h ∷ []));
        differ = apart-push ks h t.differ n;
        all = λ k. any-push ks h k ∙ ap (λ b. b || (E k h || false)) (t.all k) ∙ sym (any-push xs h k);
      }

  -- an item that is there
  pub recorded-again : (xs ks : List K) (amounts : List ℕ) (h : K) → list_any (E h) ks ≡ true → AreRecorded E xs ks amounts → AreRecorded E (xs ++ h ∷ []) ks (set amounts (position_or_len (E h) ks) (min (get_or amounts (position_or_len (E h) ks) 0) 1 + 1))
  recorded-again xs ks amounts h n t =
      record {
        keys = t.keys ∙ sym (firsts-push xs h ∙ ap (λ b. cond b (firsts E xs) (firsts E xs ++ h ∷ [])) (ap (list_any (E h)) (sym t.keys) ∙ n));
        counts = ap (λ c. set c (position_or_len (E h) ks) (min (get_or c (position_or_len (E h) ks) 0) 1 + 1)) t.counts ∙ sym (marked (often E xs) (often E (xs ++ h ∷ [])) (λ c. min c 1 + 1) h (often-hit xs h) (often-miss xs h) ks t.differ n);
        differ = t.differ;
        all = λ k. t.all k ∙ or-absorbed (list_any (E k) xs) (E k h) (λ s. sym (t.all k) ∙ found-same k h s ks ∙ n) ∙ sym (any-push xs h k);
      }

  pub count-same : (xs : List K) (x y : K) → E x y ≡ true → count_by (E x) xs ≡ count_by (E y) xs
  count-same [] x y s = refl
  count-same (z ∷ xs) x y s =
      let rest = count-same xs x y s in
      let front = sum_by-cons (λ w. none_of (E x w)) z xs in
      let other = sum_by-cons (λ w. none_of (E y w)) z xs in
      let here : none_of (E x z) ≡ none_of (E y z) = ap none_of (e.congr x y z s) in
      omega (arith, front, other, here, rest)
