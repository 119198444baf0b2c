-- The order in which a leaf's instantaneous activities are tested.
use Rattle.std.proofs.Common.{ℕ, suc, ◌<◌, ◌≤◌, ◌≡◌, ◌⊎◌, inl, inr, refl, List, [], ◌∷◌, Bool, true, false, nat_lt, cond, arith}
use Rattle.std.proofs.lemmas.Bool.{cases_lt, ltb-true, ltb-false}
use Rattle.san_law.specs.Activity.{ActKind, Activity, AreInOrder, ComesFirst, Instant, Timed, instants_from, placed, placed_by}

-- all have a greater number
abbrev AllAbove : ℕ → List (ℕ × ℕ) → Type 0
AllAbove k [] = Unit {0}
AllAbove k (y ∷ ys) = (k < y.1) × AllAbove k ys

above_more : (k m : ℕ) (ys : List (ℕ × ℕ)) → k ≤ m → AllAbove m ys → AllAbove k ys
above_more k m [] h a = tt
above_more k m (y ∷ ys) h a = (omega (arith, h, a.0), above_more k m ys h a.1)

-- before what the first of the others comes before
first_more : (x y : ℕ × ℕ) (ys : List (ℕ × ℕ)) → y.0 ≤ x.0 → AllAbove x.1 ys → ComesFirst y ys → ComesFirst x ys
first_more x y [] h a c = tt
first_more x y (z ∷ zs) h a c = (by_case (cases_lt z.0 x.0) c.0, first_more x y zs h a.1 c.1)
  where
    by_case : (z.0 < x.0) ⊎ (x.0 ≤ z.0) → (z.0 < y.0) ⊎ ((z.0 ≡ y.0) × (y.1 < z.1)) → (z.0 < x.0) ⊎ ((z.0 ≡ x.0) × (x.1 < z.1))
    by_case (inl l) o = inl l
    by_case (inr l) (inl k) = absurd (omega (arith, h, l, k))
    by_case (inr l) (inr k) = inr (omega (arith, h, l, k.0), a.0)

first_placed : (x y : ℕ × ℕ) (ys : List (ℕ × ℕ)) → x.0 < y.0 → ComesFirst y ys → ComesFirst y (placed x ys)
first_placed x y [] h c = (inl h, tt)
first_placed x y (z ∷ zs) h c = by_test (nat_lt x.0 z.0) (first_placed x y zs h c.1)
  where
    by_test : (b : Bool) → ComesFirst y (placed x zs) → ComesFirst y (cond b (z ∷ placed x zs) (x ∷ z ∷ zs))
    by_test true rest = (c.0, rest)
    by_test false rest = (inl h, c)

above_placed : (k : ℕ) (x : ℕ × ℕ) (ys : List (ℕ × ℕ)) → k < x.1 → AllAbove k ys → AllAbove k (placed x ys)
above_placed k x [] h a = (h, tt)
above_placed k x (y ∷ ys) h a = by_test (nat_lt x.0 y.0) (above_placed k x ys h a.1)
  where
    by_test : (b : Bool) → AllAbove k (placed x ys) → AllAbove k (cond b (y ∷ placed x ys) (x ∷ y ∷ ys))
    by_test true rest = (a.0, rest)
    by_test false rest = (h, a)

placed_in_order : (x : ℕ × ℕ) (ys : List (ℕ × ℕ)) → AllAbove x.1 ys → AreInOrder ys → AreInOrder (placed x ys)
placed_in_order x [] a o = (tt, tt)
placed_in_order x (y ∷ ys) a o = by_test (nat_lt x.0 y.0) refl (placed_in_order x ys a.1 o.1)
  where
    here : (x.0 ≤ y.0) ⊎ (y.0 < x.0) → y.0 ≤ x.0 → (y.0 < x.0) ⊎ ((y.0 ≡ x.0) × (x.1 < y.1))
    here (inl l) h = inr (omega (arith, l, h), a.0)
    here (inr l) h = inl l

    swapped : (y.0 < x.0) ⊎ (x.0 ≤ y.0) → (x.0 ≤ y.0) ⊎ (y.0 < x.0)
    swapped (inl l) = inr l
    swapped (inr l) = inl l

    by_test : (b : Bool) → nat_lt x.0 y.0 ≡ b → AreInOrder (placed x ys) → AreInOrder (cond b (y ∷ placed x ys) (x ∷ y ∷ ys))
    by_test true e rest = (first_placed x y ys (ltb-true x.0 y.0 e) o.0, rest)
    by_test false e rest = let h = ltb-false x.0 y.0 e in ((here (swapped (cases_lt y.0 x.0)) h, first_more x y ys h a.1 o.0), o)

above_by : (k : ℕ) (kind : ActKind) (xs : List (ℕ × ℕ)) (m : ℕ) → m < k → AllAbove m xs → AllAbove m (placed_by k kind xs)
above_by k (Timed delay pair) xs m h a = a
above_by k (Instant priority) xs m h a = above_placed m (priority, k) xs h a

above_from : (k m : ℕ) (activities : List Activity) → m < k → AllAbove m (instants_from k activities)
above_from k m [] h = tt
above_from k m (a ∷ activities) h = above_by k a.kind (instants_from (suc k) activities) m h (above_from (suc k) m activities (omega (arith, h)))

in_order_by : (k : ℕ) (kind : ActKind) (xs : List (ℕ × ℕ)) → AllAbove k xs → AreInOrder xs → AreInOrder (placed_by k kind xs)
in_order_by k (Timed delay pair) xs a o = o
in_order_by k (Instant priority) xs a o = placed_in_order (priority, k) xs a o

instants_from_in_order : (k : ℕ) (activities : List Activity) → AreInOrder (instants_from k activities)
instants_from_in_order k [] = tt
instants_from_in_order k (a ∷ activities) = in_order_by k a.kind (instants_from (suc k) activities) (above_from (suc k) k activities (omega arith)) (instants_from_in_order (suc k) activities)

pub instants_are_in_order : (activities : List Activity) → AreInOrder (instants_from 0 activities)
instants_are_in_order activities = instants_from_in_order 0 activities
