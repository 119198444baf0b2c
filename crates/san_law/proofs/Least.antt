-- The least timer is before all others.
use Rattle.std.proofs.Common.{ℕ, zero, suc, ◌+◌, ◌≤◌, ◌≡◌, ◌∙◌, inl, inr, ap, sym, refl, subst, List, [], ◌∷◌, Option, Some, None, Bool, true, false, arith, nat_lt, slice_index_or, cond}
use Rattle.std.proofs.lemmas.Bool.{ltb-true, ltb-false, cases_lt}
use Rattle.san_law.specs.Renewal.{Due, least_from, sooner}
use Rattle.san_law.specs.inner.Least.{Before, LeastIsBefore, NoneIsDue}

pub before_late : (d : Due) (leaf : ℕ) (x : ℕ × ℕ) → Before d leaf (Some x) → d.time ≤ x.0
before_late d leaf x (inl h) = omega (arith, h)
before_late d leaf x (inr h) = omega (arith, h.0)

-- the least timer is before all others
pub record IsLeastFrom (a : ℕ) (ds : List (Option (ℕ × ℕ))) (d : Due) : Type 0 where
  pub index : ℕ
  pub leaf : d.leaf ≡ a + index
  pub is : slice_index_or ds index None ≡ Some (d.time, d.act)
  pub all : (i : ℕ) → Before d (a + i) (slice_index_or ds i None)

abbrev LeastOf : ℕ → List (Option (ℕ × ℕ)) → Option Due → Type 0
LeastOf a ds None = (i : ℕ) → slice_index_or ds i None ≡ None
LeastOf a ds (Some d) = IsLeastFrom a ds d

before_at : (d : Due) (m n : ℕ) (o : Option (ℕ × ℕ)) → m ≡ n → Before d m o → Before d n o
before_at d m n o e h = subst (λ k. Before d k o) e h

before_none : (d : Due) (n : ℕ) (o : Option (ℕ × ℕ)) → o ≡ None → Before d n o
before_none d n None e = tt
before_none d n (Some x) e = cc

before_less : (d e : Due) (n : ℕ) (o : Option (ℕ × ℕ)) → (d.time ≤ e.time) → d.leaf ≤ n → Before e n o → Before d n o
before_less d e n None h l b = tt
before_less d e n (Some x) h l (inl b) = inl (omega (arith, h, b))
before_less d e n (Some x) h l (inr b) = elim (cases_lt d.time x.0) [ inl k ↦ inl k | inr k ↦ inr (omega (arith, h, b.0, k), l) ]

later_least : (a : ℕ) (o : Option (ℕ × ℕ)) (ds : List (Option (ℕ × ℕ))) (d : Due) → Before d a o → IsLeastFrom (suc a) ds d → IsLeastFrom a (o ∷ ds) d
later_least a o ds d b h = record { index = suc h.index; leaf = omega (arith, h.leaf); is = h.is; all = all_of }
  where
    all_of : (i : ℕ) → Before d (a + i) (slice_index_or (o ∷ ds) i None)
    all_of zero = before_at d a (a + zero) o (omega arith) b
    all_of (suc i) = before_at d (suc a + i) (a + suc i) (slice_index_or ds i None) (omega arith) (h.all i)

here_least : (a x y : ℕ) (ds : List (Option (ℕ × ℕ))) → ((i : ℕ) → Before (record { time = x; leaf = a; act = y }) (suc a + i) (slice_index_or ds i None)) → IsLeastFrom a (Some (x, y) ∷ ds) (record { time = x; leaf = a; act = y })
here_least a x y ds h = record { index = 0; leaf = omega arith; is = refl; all = all_of }
  where
    all_of : (i : ℕ) → Before (record { time = x; leaf = a; act = y }) (a + i) (slice_index_or (Some (x, y) ∷ ds) i None)
    all_of zero = inr (refl, omega arith)
    all_of (suc i) = before_at (record { time = x; leaf = a; act = y }) (suc a + i) (a + suc i) (slice_index_or ds i None) (omega arith) (h i)

least_some : (a x y : ℕ) (ds : List (Option (ℕ × ℕ))) (rest : Option Due) → LeastOf (suc a) ds rest → LeastOf a (Some (x, y) ∷ ds) (sooner (record { time = x; leaf = a; act = y }) rest)
least_some a x y ds None h = here_least a x y ds (λ i. before_none (record { time = x; leaf = a; act = y }) (suc a + i) (slice_index_or ds i None) (h i))
least_some a x y ds (Some e) h = by_test (nat_lt e.time x) refl
  where
    by_test : (b : Bool) → nat_lt e.time x ≡ b → LeastOf a (Some (x, y) ∷ ds) (cond b (Some e) (Some (record { time = x; leaf = a; act = y })))
    by_test true t = later_least a (Some (x, y)) ds e (inl (ltb-true e.time x t)) h
    by_test false t = here_least a x y ds (λ i. before_less (record { time = x; leaf = a; act = y }) e (suc a + i) (slice_index_or ds i None) (ltb-false e.time x t) (omega arith) (h.all i))

least_none : (a : ℕ) (ds : List (Option (ℕ × ℕ))) (rest : Option Due) → LeastOf (suc a) ds rest → LeastOf a (None ∷ ds) rest
least_none a ds None h = λ i. by_number i
  where
    by_number : (i : ℕ) → slice_index_or (None ∷ ds) i None ≡ None
    by_number zero = refl
    by_number (suc i) = h i
least_none a ds (Some d) h = later_least a None ds d tt h

least_of : (a : ℕ) (ds : List (Option (ℕ × ℕ))) → LeastOf a ds (least_from a ds)
least_of a [] = λ i. refl
least_of a (None ∷ ds) = least_none a ds (least_from (suc a) ds) (least_of (suc a) ds)
least_of a (Some d ∷ ds) = least_some a d.0 d.1 ds (least_from (suc a) ds) (least_of (suc a) ds)

pub least_is_before : (dues : List (Option (ℕ × ℕ))) → LeastIsBefore dues
least_is_before dues d e =
    let h : IsLeastFrom 0 dues d = subst (LeastOf 0 dues) e (least_of 0 dues) in
    let z : h.index ≡ d.leaf = omega (arith, h.leaf) in
    (ap (λ i. slice_index_or dues i None) (sym z) ∙ h.is, λ i. before_at d (0 + i) i (slice_index_or dues i None) (omega arith) (h.all i))

pub none_is_due : (dues : List (Option (ℕ × ℕ))) → NoneIsDue dues
none_is_due dues e i = (subst (LeastOf 0 dues) e (least_of 0 dues)) i
