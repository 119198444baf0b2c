-- The places of a network lie apart, as the law asks.
use Rattle.san_base.proofs.Bools.{or_none, or_second}
use Rattle.std.proofs.Common.{ℕ, zero, suc, ◌+◌, ◌≤◌, ◌<◌, ◌≡◌, ◌≢◌, ◌∙◌, ap, sym, refl, subst, arith, Bool, true, false, not, cond, ◌||◌, min, nat_eq, nat_le, fold, Some, None, List, [], ◌∷◌, ◌++◌, map, length, filter, ◌⊎◌, inl, inr}
use Rattle.std.specs.Prelude.{All, slice_get, slice_index_or}
use Rattle.std.specs.List.{count_by, list_any}
use Rattle.std.proofs.Math.Bool.{true≢false}
use Rattle.std.proofs.lemmas.Bool.{cases_Bool, eq-eqb}
use Rattle.std.proofs.lemmas.Bool.Decides.{eqb_tells, leb_tells}
use Rattle.std.proofs.lemmas.List.{length-map}
use Rattle.std.proofs.lemmas.List.Folds.{list_any-append}
use Rattle.std.proofs.lemmas.List.Sums.{sum_by-append, sum_by-cons}
use Rattle.std.proofs.lemmas.Option.{slice_get_past, slice_get_within}
use Rattle.san_law.specs.Activity as leaf
use Rattle.san_law.specs.Lawful.{AllApart, AllBelow, AreDistinct, IsLaid, IsLawful}
use Rattle.san_law.specs.Net as net
use Rattle.san_law.specs.Network as law
use Rattle.san_law.specs.State.{index_of, part_of, slots_of}
use Rattle.san_law.specs.State as state
use Rattle.san_law.proofs.Renewals.{leaves_are_lawful}
use Rattle.san_net.specs.Apart.{AreApart}
use Rattle.san_net.specs.Laid.{IsTagged, IsNetwork, all_places, place_of, places_of}
use Rattle.san_net.specs.Leaf.{leaf_of, slot_in}
use Rattle.san_net.specs.Network.{Network, net_of, network_in}
use Rattle.san_net.specs.Numbering.{added, counting, firsts, is_often, ordered, repeated}
use Rattle.san_net.specs.declared.part.Part.{Part}
use Rattle.san_net.specs.declared.part.Slot.{Slot}
use Rattle.san_net.specs.declared.part.Slot.TheVariants.{Private, Shared}
use Rattle.san_net.proofs.MadeLemmas.{all_made, all_first, all_rest}
use Rattle.san_net.proofs.SeenLemmas.{none_of}

abbrev pub has : ℕ → List ℕ → Bool
has q xs = list_any (nat_eq q) xs

-- an item that is there stays, and one that comes is there
module _ (q : ℕ) where
  stays_once : (x : ℕ) (ks : List ℕ) (b : Bool) → has q ks ≡ true → has q (cond b ks (ks ++ x ∷ [])) ≡ true
  stays_once x ks true h = h
  stays_once x ks false h = list_any-append (nat_eq q) ks (x ∷ []) ∙ ap (λ (b : Bool). b || (nat_eq q x || false)) h

  stays : (xs ks : List ℕ) → has q ks ≡ true → has q (fold (added nat_eq) ks xs) ≡ true
  stays [] ks h = h
  stays (x ∷ xs) ks h = stays xs (added nat_eq ks x) (stays_once x ks (has x ks) h)

  comes_once : (x : ℕ) (ks : List ℕ) → q ≡ x → (b : Bool) → has x ks ≡ b → has q (cond b ks (ks ++ x ∷ [])) ≡ true
  comes_once x ks e true h = ap (λ (n : ℕ). has n ks) e ∙ h
  comes_once x ks e false h = list_any-append (nat_eq q) ks (x ∷ []) ∙ or_second (has q ks) (nat_eq q x || false) (ap (λ (b : Bool). b || false) (eq-eqb q x e))

  comes : (xs ks : List ℕ) → has q xs ≡ true → has q (fold (added nat_eq) ks xs) ≡ true
  comes [] ks h = absurd (true≢false (sym h))
  comes (x ∷ xs) ks h = by_test (eqb_tells q x) (λ m. comes xs (added nat_eq ks x) m)
    where
      by_test : ((nat_eq q x ≡ true) × (q ≡ x)) ⊎ ((nat_eq q x ≡ false) × (q ≡ x → ⊥)) → (has q xs ≡ true → has q (fold (added nat_eq) (added nat_eq ks x) xs) ≡ true) → has q (fold (added nat_eq) (added nat_eq ks x) xs) ≡ true
      by_test (inl t) more = stays xs (added nat_eq ks x) (comes_once x ks t.1 (has x ks) refl)
      by_test (inr t) more = more (ap (λ (b : Bool). b || has q xs) (sym t.0) ∙ h)

  passes_filter : (p : ℕ → Bool) (xs : List ℕ) → p q ≡ true → has q xs ≡ true → has q (filter p xs) ≡ true
  passes_filter p [] pass h = h
  passes_filter p (x ∷ xs) pass h = by_test (eqb_tells q x) (λ m. passes_filter p xs pass m)
    where
      by_pass : (b : Bool) → has q (filter p xs) ≡ true → has q (cond b (x ∷ filter p xs) (filter p xs)) ≡ true
      by_pass true r = or_second (nat_eq q x) (has q (filter p xs)) r
      by_pass false r = r

      by_test : ((nat_eq q x ≡ true) × (q ≡ x)) ⊎ ((nat_eq q x ≡ false) × (q ≡ x → ⊥)) → (has q xs ≡ true → has q (filter p xs) ≡ true) → has q (filter p (x ∷ xs)) ≡ true
      by_test (inl t) more =
          ap (λ (b : Bool). has q (cond b (x ∷ filter p xs) (filter p xs))) (ap p (sym t.1) ∙ pass) ∙ ap (λ (b : Bool). b || has q (filter p xs)) t.0
      by_test (inr t) more = by_pass (p x) (more (ap (λ (b : Bool). b || has q xs) (sym t.0) ∙ h))

  front_below : (xs ys : List ℕ) (n m : ℕ) → xs ++ ys ≡ counting n m → has q xs ≡ true → q < n + length xs
  front_below [] ys n m e h = absurd (true≢false (sym h))
  front_below (x ∷ xs) ys n zero e h = absurd cc
  front_below (x ∷ xs) ys n (suc m) e h = by_test (eqb_tells q x) (λ k. front_below xs ys (n + 1) m more k)
    where
      here : x ≡ n
      here = cc

      more : xs ++ ys ≡ counting (n + 1) m
      more = cc

      by_test : ((nat_eq q x ≡ true) × (q ≡ x)) ⊎ ((nat_eq q x ≡ false) × (q ≡ x → ⊥)) → (has q xs ≡ true → q < n + 1 + length xs) → q < n + suc (length xs)
      by_test (inl t) rest = omega (arith, t.1, here)
      by_test (inr t) rest = let r = rest (ap (λ (b : Bool). b || has q xs) (sym t.0) ∙ h) in omega (arith, r)

  often_below : (xs : List ℕ) (m : ℕ) → ordered nat_eq xs ≡ counting 0 m → is_often nat_eq xs q ≡ true → has q xs ≡ true → q < length (repeated nat_eq xs)
  often_below xs m e often h =
      let there = passes_filter (is_often nat_eq xs) (firsts nat_eq xs) often (comes xs [] h) in
      let r = front_below (repeated nat_eq xs) (filter (λ k. not (is_often nat_eq xs k)) (firsts nat_eq xs)) 0 m e there in
      omega (arith, r)

  pub once : (xs : List ℕ) → has q xs ≡ true → 1 ≤ count_by (nat_eq q) xs
  once [] h = absurd (true≢false (sym h))
  once (x ∷ xs) h = by_test (eqb_tells q x) (λ m. once xs m)
    where
      all : count_by (nat_eq q) (x ∷ xs) ≡ none_of (nat_eq q x) + count_by (nat_eq q) xs
      all = sum_by-cons (λ y. none_of (nat_eq q y)) x xs

      by_test : ((nat_eq q x ≡ true) × (q ≡ x)) ⊎ ((nat_eq q x ≡ false) × (q ≡ x → ⊥)) → (has q xs ≡ true → 1 ≤ count_by (nat_eq q) xs) → 1 ≤ count_by (nat_eq q) (x ∷ xs)
      by_test (inl t) rest = let one : none_of (nat_eq q x) ≡ 1 = ap none_of t.0 in omega (arith, all, one)
      by_test (inr t) rest = let r = rest (ap (λ (b : Bool). b || has q xs) (sym t.0) ∙ h) in omega (arith, all, r)

  count_front : (p : Part) (parts : List Part) → count_by (nat_eq q) (all_places (p ∷ parts)) ≡ count_by (nat_eq q) (places_of p) + count_by (nat_eq q) (all_places parts)
  count_front p parts = sum_by-append (λ y. none_of (nat_eq q y)) (places_of p) (all_places parts)

  once_there : (parts : List Part) (i : ℕ) (p : Part) → slice_get parts i ≡ Some p → has q (places_of p) ≡ true → 1 ≤ count_by (nat_eq q) (all_places parts)
  once_there [] i p is h = absurd cc
  once_there (r ∷ parts) zero p is h =
      let same : r ≡ p = cc in
      let one = once (places_of r) (ap (λ (x : Part). has q (places_of x)) same ∙ h) in
      let all = count_front r parts in
      omega (arith, one, all)
  once_there (r ∷ parts) (suc i) p is h = let rest = once_there parts i p is h in let all = count_front r parts in omega (arith, rest, all)

  twice_there : (parts : List Part) (i j : ℕ) (p s : Part) → (i ≡ j → ⊥) → slice_get parts i ≡ Some p → slice_get parts j ≡ Some s → has q (places_of p) ≡ true → has q (places_of s) ≡ true → 2 ≤ count_by (nat_eq q) (all_places parts)
  twice_there [] i j p s n a b h k = absurd cc
  twice_there (r ∷ parts) zero zero p s n a b h k = absurd (n refl)
  twice_there (r ∷ parts) zero (suc j) p s n a b h k =
      let same : r ≡ p = cc in
      let one = once (places_of r) (ap (λ (x : Part). has q (places_of x)) same ∙ h) in
      let rest = once_there parts j s b k in
      let all = count_front r parts in
      omega (arith, one, rest, all)
  twice_there (r ∷ parts) (suc i) zero p s n a b h k =
      let same : r ≡ s = cc in
      let one = once (places_of r) (ap (λ (x : Part). has q (places_of x)) same ∙ k) in
      let rest = once_there parts i p a h in
      let all = count_front r parts in
      omega (arith, one, rest, all)
  twice_there (r ∷ parts) (suc i) (suc j) p s n a b h k =
      let rest = twice_there parts i j p s (λ e. n (ap suc e)) a b h k in
      let all = count_front r parts in
      omega (arith, rest, all)

  has_all : (parts : List Part) (i : ℕ) (p : Part) → slice_get parts i ≡ Some p → has q (places_of p) ≡ true → has q (all_places parts) ≡ true
  has_all [] i p is h = absurd cc
  has_all (r ∷ parts) zero p is h =
      let same : r ≡ p = cc in
      list_any-append (nat_eq q) (places_of r) (all_places parts) ∙ ap (λ (b : Bool). b || has q (all_places parts)) (ap (λ (x : Part). has q (places_of x)) same ∙ h)
  has_all (r ∷ parts) (suc i) p is h = list_any-append (nat_eq q) (places_of r) (all_places parts) ∙ or_second (has q (places_of r)) (has q (all_places parts)) (has_all parts i p is h)

  -- a private place is in no other leaf
  only_here : (n : Network) → IsNetwork n → (i j : ℕ) (p s : Part) → (j ≢ i) → slice_get n.parts i ≡ Some p → slice_get n.parts j ≡ Some s → has q (places_of p) ≡ true → n.shared ≤ q → has q (places_of s) ≡ false
  only_here n net i j p s apart a b h private = by_test (cases_Bool (has q (places_of s)))
    where
      by_test : (has q (places_of s) ≡ true) ⊎ (has q (places_of s) ≡ false) → has q (places_of s) ≡ false
      by_test (inr t) = t
      by_test (inl t) =
          let two = twice_there n.parts i j p s (λ e. apart (sym e)) a b h t in
          let most : min (count_by (nat_eq q) (all_places n.parts)) 2 ≡ 2 = omega (arith, two) in
          let low = often_below (all_places n.parts) (length n.initial) net.numbered.places (ap (λ (c : ℕ). nat_eq c 2) most) (has_all n.parts i p a h) in
          absurd (omega (arith, low, private, net.shared))

index_none : (q : ℕ) (xs : List ℕ) → has q xs ≡ false → index_of q xs ≡ None
index_none q [] h = refl
index_none q (x ∷ xs) h =
    let two = or_none (nat_eq q x) (has q xs) h in
    ap (λ (b : Bool). state.or_next b (index_of q xs)) two.0 ∙ ap (state.or_next false) (index_none q xs two.1)

pub place_in : (s : Slot) → state.place_of (slot_in s) ≡ place_of s
place_in (Private place) = refl
place_in (Shared place) = refl

pub places_in : (slots : List Slot) → map state.place_of (map slot_in slots) ≡ map place_of slots
places_in [] = refl
places_in (s ∷ slots) = ap (λ (x : ℕ). x ∷ map state.place_of (map slot_in slots)) (place_in s) ∙ ap (λ (xs : List ℕ). place_of s ∷ xs) (places_in slots)

all_below : (xs : List ℕ) (m : ℕ) → ((i x : ℕ) → slice_get xs i ≡ Some x → x < m) → AllBelow xs m
all_below [] m h = tt
all_below (x ∷ xs) m h = (h 0 x refl, all_below xs m (λ i y is. h (suc i) y is))

found_at : (q : ℕ) (xs : List ℕ) → has q xs ≡ true → (j : ℕ) × (slice_get xs j ≡ Some q)
found_at q [] h = absurd (true≢false (sym h))
found_at q (x ∷ xs) h = by_test (eqb_tells q x) (λ r. found_at q xs r)
  where
    by_test : ((nat_eq q x ≡ true) × (q ≡ x)) ⊎ ((nat_eq q x ≡ false) × (q ≡ x → ⊥)) → (has q xs ≡ true → (j : ℕ) × (slice_get xs j ≡ Some q)) → (j : ℕ) × (slice_get (x ∷ xs) j ≡ Some q)
    by_test (inl t) more = (0, ap Some (sym t.1))
    by_test (inr t) more = let r = more (ap (λ (b : Bool). b || has q xs) (sym t.0) ∙ h) in (suc r.0, r.1)

there : (xs : List ℕ) (i x : ℕ) → slice_get xs i ≡ Some x → has x xs ≡ true
there [] i x is = absurd cc
there (y ∷ xs) zero x is = let same : x ≡ y = cc in ap (λ (b : Bool). b || has x xs) (eq-eqb x y same)
there (y ∷ xs) (suc i) x is = or_second (nat_eq x y) (has x xs) (there xs i x is)

pub head_absent : (x : ℕ) (xs : List ℕ) → AreApart (x ∷ xs) → has x xs ≡ false
head_absent x xs h = by_test (cases_Bool (has x xs))
  where
    not_first : {j : ℕ} → 0 ≡ suc j → ⊥
    not_first e = omega (arith, e)

    by_test : (has x xs ≡ true) ⊎ (has x xs ≡ false) → has x xs ≡ false
    by_test (inr t) = t
    by_test (inl t) = let r = found_at x xs t in absurd (not_first (h 0 (suc r.0) x refl r.1))

pub tail_apart : (x : ℕ) (xs : List ℕ) → AreApart (x ∷ xs) → AreApart xs
tail_apart x xs h = λ i j y a b. later (h (suc i) (suc j) y a b)
  where
    later : {i j : ℕ} → suc i ≡ suc j → i ≡ j
    later e = omega (arith, e)

distinct : (xs : List ℕ) → AreApart xs → AreDistinct xs
distinct [] h = tt
distinct (x ∷ xs) h = (index_none x xs (head_absent x xs h), distinct xs (tail_apart x xs h))

got : (xs : List ℕ) (i : ℕ) → i < length xs → slice_get xs i ≡ None → ⊥
got [] i l e = omega (arith, l)
got (x ∷ xs) zero l e = absurd cc
got (x ∷ xs) (suc i) l e = got xs i (omega (arith, l)) e

module _ (n : Network) (net_is : IsNetwork n) where
  pub place_below : (j i q : ℕ) (p : Part) → slice_get n.parts j ≡ Some p → slice_get (places_of p) i ≡ Some q → q < length n.initial
  place_below j i q p is at = by_order (leb_tells (length n.initial) q)
    where
      within : i < length p.atomic.initial
      within =
          let a = slice_get_within (places_of p) i q at in
          let b = length-map p.slots place_of in
          omega (arith, a, b, (net_is.slotted j p is).each)

      by_order : ((nat_le (length n.initial) q ≡ true) × (length n.initial ≤ q)) ⊎ ((nat_le (length n.initial) q ≡ false) × (q < length n.initial)) → q < length n.initial
      by_order (inr l) = l.1
      by_order (inl l) = absurd (got p.atomic.initial i within (sym (net_is.valued j p is i q at) ∙ slice_get_past n.initial q l.1))

  abbrev the_slots : List Part → ℕ → List net.Slot
  the_slots parts j = slice_index_or (map (λ (p : leaf.Part). p.slots) (map leaf_of parts)) j []

  at_part : (P : List net.Slot → Type 0) → P [] → (parts : List Part) (j : ℕ) → ((p : Part) → slice_get parts j ≡ Some p → P (map slot_in p.slots)) → P (the_slots parts j)
  at_part P none [] j some = none
  at_part P none (p ∷ parts) zero some = some p refl
  at_part P none (p ∷ parts) (suc j) some = at_part P none parts j some

  all_apart : (p : Part) (Others : ℕ → Type 0) (slots : List Slot) → All (IsTagged n.shared) slots → ((q : ℕ) → has q (map place_of slots) ≡ true → n.shared ≤ q → Others q) → AllApart n.shared Others (map slot_in slots)
  all_apart p Others [] tagged away = tt
  all_apart p Others (Private place ∷ slots) tagged away =
      let here = all_first (IsTagged n.shared) (Private place) slots tagged in (
        here,
        away place.0 (ap (λ (b : Bool). b || has place.0 (map place_of slots)) (eq-eqb place.0 place.0 refl)) here,
        all_apart p Others slots (all_rest (IsTagged n.shared) (Private place) slots tagged) (λ q h. away q (or_second (nat_eq q place.0) (has q (map place_of slots)) h)),
      )
  all_apart p Others (Shared place ∷ slots) tagged away = (
    all_first (IsTagged n.shared) (Shared place) slots tagged,
    all_apart p Others slots (all_rest (IsTagged n.shared) (Shared place) slots tagged) (λ q h. away q (or_second (nat_eq q place.0) (has q (map place_of slots)) h)),
  )

  module _ (draw : ℕ → ℕ → ℕ) (limits : law.Limits) where
    pub laid : IsLaid (net_of n draw limits) (length n.initial)
    laid = record {
      below = λ j. at_part (λ ss. AllBelow (map state.place_of ss) (length n.initial)) tt n.parts j
          (λ p is. subst (λ xs. AllBelow xs (length n.initial)) (sym (places_in p.slots)) (all_below (places_of p) (length n.initial) (λ i q at. place_below j i q p is at)));
      distinct = λ j. at_part (λ ss. AreDistinct (map state.place_of ss)) tt n.parts j
          (λ p is. subst AreDistinct (sym (places_in p.slots)) (distinct (places_of p) (net_is.slotted j p is).apart));
      apart = λ i j other. at_part (λ ss. AllApart n.shared (λ q. index_of q (slots_of (net_of n draw limits) j) ≡ None) ss) tt n.parts i
          (λ p is. all_apart p (λ q. index_of q (slots_of (net_of n draw limits) j) ≡ None) p.slots (net_is.slotted i p is).tagged
          (λ q h private. at_part (λ ss. index_of q (map state.place_of ss) ≡ None) refl n.parts j
          (λ s at. ap (index_of q) (places_in s.slots) ∙ index_none q (places_of s) (only_here q n net_is i j p s other is at h private))));
    }

    pub lawful : IsLawful (net_of n draw limits)
    lawful = leaves_are_lawful (network_in n) (all_made n net_is) draw limits
