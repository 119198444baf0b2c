-- Maps put over markings, and what agrees with a view.
use Rattle.std.proofs.Common.{ℕ, zero, suc, ◌≡◌, ◌∙◌, ◌<◌, ap, sym, refl, subst, arith, List, [], ◌∷◌, length, Option, Some, None, Bool, true, false, nat_eq, cond, ◌⊎◌, inl, inr}
use Rattle.std.specs.Prelude.{slice_index, slice_set}
use Rattle.std.proofs.lemmas.Bool.Decides.{eqb_tells}
use Rattle.san_expr.specs.View.{Known, ViewState, Agrees, Grows, IsAt, over, or_else, with, is_known}

pub length-over : (own : Known) (m : List ℕ) → length (over own m) ≡ length m
length-over own [] = refl
length-over own (x ∷ m) = ap suc (length-over (λ p. own (suc p)) m)

pub slice_index-over : (own : Known) (m : List ℕ) (p : ℕ) → p < length m → slice_index (over own m) p ≡ or_else (own p) (slice_index m p)
slice_index-over own [] p h = absurd (omega arith)
slice_index-over own (x ∷ m) zero h = refl
slice_index-over own (x ∷ m) (suc p) h = slice_index-over (λ q. own (suc q)) m p (omega arith)

pub over-same : (a b : Known) (m : List ℕ) → ((p : ℕ) → a p ≡ b p) → over a m ≡ over b m
over-same a b [] h = refl
over-same a b (x ∷ m) h = ap (λ (o : Option ℕ). or_else o x ∷ over (λ p. a (suc p)) m) (h 0) ∙ ap (λ (ys : List ℕ). or_else (b 0) x ∷ ys) (over-same (λ p. a (suc p)) (λ p. b (suc p)) m (λ p. h (suc p)))

same_test : (a b c d : ℕ) → (a ≡ b → c ≡ d) → (c ≡ d → a ≡ b) → nat_eq a b ≡ nat_eq c d
same_test a b c d f g = by_tests (eqb_tells a b) (eqb_tells c d)
  where
    by_tests : ((nat_eq a b ≡ true) × (a ≡ b)) ⊎ ((nat_eq a b ≡ false) × (a ≡ b → ⊥)) → ((nat_eq c d ≡ true) × (c ≡ d)) ⊎ ((nat_eq c d ≡ false) × (c ≡ d → ⊥))
        → nat_eq a b ≡ nat_eq c d
    by_tests (inl x) (inl y) = x.0 ∙ sym y.0
    by_tests (inl x) (inr y) = absurd (y.1 (f x.1))
    by_tests (inr x) (inl y) = absurd (x.1 (g y.1))
    by_tests (inr x) (inr y) = x.0 ∙ sym y.0

differ : (a b : ℕ) → (a ≡ b → ⊥) → nat_eq a b ≡ false
differ a b apart = by_test (eqb_tells a b)
  where
    by_test : ((nat_eq a b ≡ true) × (a ≡ b)) ⊎ ((nat_eq a b ≡ false) × (a ≡ b → ⊥)) → nat_eq a b ≡ false
    by_test (inl x) = absurd (apart x.1)
    by_test (inr x) = x.0

pub over-with : (own : Known) (m : List ℕ) (p v : ℕ) → over (with own p v) m ≡ slice_set (over own m) p v
over-with own [] p v = refl
over-with own (x ∷ m) zero v =
    ap (λ (ys : List ℕ). v ∷ ys) (over-same (λ q. with own 0 v (suc q)) (λ q. own (suc q)) m
    (λ q. ap (λ (b : Bool). cond b (Some v) (own (suc q))) (differ (suc q) 0 (λ e. omega (arith, e)))))
over-with own (x ∷ m) (suc p) v =
    ap (λ (b : Bool). or_else (cond b (Some v) (own 0)) x ∷ over (λ q. with own (suc p) v (suc q)) m) (differ 0 (suc p) (λ e. omega (arith, e)))
    ∙ ap (λ (ys : List ℕ). or_else (own 0) x ∷ ys)
    (over-same (λ q. with own (suc p) v (suc q)) (with (λ q. own (suc q)) p v) m
    (λ q. ap (λ (b : Bool). cond b (Some v) (own (suc q))) (same_test (suc q) (suc p) q p (λ e. omega (arith, e)) (λ e. omega (arith, e))))
    ∙ over-with (λ q. own (suc q)) m p v)

-- where every cell is the map's own, what it is put over does not matter
pub over_whole : (own : Known) (m n : List ℕ) → length m ≡ length n → ((p : ℕ) → p < length m → is_known (own p) ≡ true) → over own m ≡ over own n
over_whole own [] [] e h = refl
over_whole own [] (y ∷ n) e h = absurd (omega arith)
over_whole own (x ∷ m) [] e h = absurd (omega arith)
over_whole own (x ∷ m) (y ∷ n) e h =
    let rest = over_whole (λ q. own (suc q)) m n (omega arith) (λ p l. h (suc p) (omega arith)) in
    here (own 0) (h 0 (omega arith)) ∙ ap (λ (ys : List ℕ). or_else (own 0) y ∷ ys) rest
  where
    here : (o : Option ℕ) → is_known o ≡ true → (or_else o x ∷ over (λ q. own (suc q)) m) ≡ (or_else o y ∷ over (λ q. own (suc q)) m)
    here None k = cc
    here (Some v) k = refl

is_at_before : (old new : Option ℕ) (x : ℕ) → ((v : ℕ) → old ≡ Some v → new ≡ Some v) → IsAt new x → IsAt old x
is_at_before None new x g a = tt
is_at_before (Some v) new x g a = subst (λ (k : Option ℕ). IsAt k x) (g v refl) a

-- what agrees afterwards agreed before
pub agrees_before : (old new : ViewState) (m : List ℕ) → new.places ≡ old.places → Grows old.first new.first → Agrees new m → Agrees old m
agrees_before old new m same grows a = record {
  sized = a.sized ∙ same;
  has = λ p. is_at_before (old.first p) (new.first p) (slice_index m p) (grows p) (a.has p);
}

pub with_here : (own : Known) (p v : ℕ) → with own p v p ≡ Some v
with_here own p v = here (eqb_tells p p)
  where
    here : ((nat_eq p p ≡ true) × (p ≡ p)) ⊎ ((nat_eq p p ≡ false) × (p ≡ p → ⊥)) → with own p v p ≡ Some v
    here (inl t) = ap (λ (b : Bool). cond b (Some v) (own p)) t.0
    here (inr t) = absurd (t.1 refl)

pub with_there : (own : Known) (p v q : ℕ) → nat_eq q p ≡ false → with own p v q ≡ own q
with_there own p v q e = ap (λ (b : Bool). cond b (Some v) (own q)) e
