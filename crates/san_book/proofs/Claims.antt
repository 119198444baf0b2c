-- Claims that come and go.
use Rattle.std.proofs.Common.{ℕ, zero, suc, ◌+◌, ◌<◌, ◌≡◌, ◌≢◌, ◌⊎◌, ◌∙◌, ◌||◌, inl, inr, ap, sym, refl, List, [], ◌∷◌, length, Option, Some, None, Bool, true, false, arith, slice_set}
use Rattle.std.proofs.lemmas.Bool.{eq-eqb, true≢false}
use Rattle.san_book.specs.Cores.{Pending, claim_of, is_at, is_claimed}
use Rattle.san_book.specs.Bounds.{claims_by}

pub claims_less : (claims : List (Option Pending)) (w v : ℕ) (p : Pending) → claim_of (slice_set claims w None) v ≡ Some p → (claim_of claims v ≡ Some p) × (v ≢ w)
claims_less [] w v p e = cc
claims_less (o ∷ os) zero zero p e = cc
claims_less (o ∷ os) zero (suc v) p e = (e, λ k. omega (arith, k))
claims_less (o ∷ os) (suc w) zero p e = (e, λ k. omega (arith, k))
claims_less (o ∷ os) (suc w) (suc v) p e = let r = claims_less os w v p e in (r.0, λ k. r.1 (omega (arith, k)))

pub claims_more : (claims : List (Option Pending)) (w v : ℕ) (n p : Pending) → claim_of (slice_set claims w (Some n)) v ≡ Some p → ((v ≡ w) × (n ≡ p)) ⊎ ((claim_of claims v ≡ Some p) × (v ≢ w))
claims_more [] w v n p e = absurd (cc)
claims_more (o ∷ os) zero zero n p e = inl (refl, cc)
claims_more (o ∷ os) zero (suc v) n p e = inr (e, λ k. omega (arith, k))
claims_more (o ∷ os) (suc w) zero n p e = inr (e, λ k. omega (arith, k))
claims_more (o ∷ os) (suc w) (suc v) n p e = elim (claims_more os w v n p e) [ inl r ↦ inl (ap suc r.0, r.1) | inr r ↦ inr (r.0, λ k. r.1 (omega (arith, k))) ]

pub not_claimed : (claims : List (Option Pending)) (w : ℕ) (p : Pending) → is_claimed p.leaf claims ≡ false → claim_of claims w ≡ Some p → ⊥
not_claimed [] w p h e = cc
not_claimed (o ∷ os) zero p h e = first o h e
  where
    first : (o : Option Pending) → (is_at p.leaf o || is_claimed p.leaf os) ≡ false → o ≡ Some p → ⊥
    first None h e = cc
    first (Some r) h e = let k : r ≡ p = cc in true≢false (sym (ap (λ b. b || is_claimed p.leaf os) (eq-eqb r.leaf p.leaf (ap (λ (x : Pending). x.leaf) k))) ∙ h)
not_claimed (o ∷ os) (suc w) p h e = not_claimed os w p (second (is_at p.leaf o) h) e
  where
    second : (b : Bool) → (b || is_claimed p.leaf os) ≡ false → is_claimed p.leaf os ≡ false
    second true h = cc
    second false h = h

-- what is summed up over the claims
pub sum_less : (f : Pending → ℕ) (claims : List (Option Pending)) (w : ℕ) (p : Pending) → claim_of claims w ≡ Some p → claims_by f (slice_set claims w None) + f p ≡ claims_by f claims
sum_less f [] w p e = cc
sum_less f (None ∷ os) zero p e = cc
sum_less f (Some r ∷ os) zero p e = let k : r ≡ p = cc in let t : f r ≡ f p = ap f k in omega (arith, t)
sum_less f (o ∷ os) (suc w) p e = omega (arith, sum_less f os w p e)

pub sum_other : (f : Pending → ℕ) (claims : List (Option Pending)) (w : ℕ) (p n : Pending) → claim_of claims w ≡ Some p → claims_by f (slice_set claims w (Some n)) + f p ≡ claims_by f claims + f n
sum_other f [] w p n e = cc
sum_other f (None ∷ os) zero p n e = cc
sum_other f (Some r ∷ os) zero p n e = let k : r ≡ p = cc in let t : f r ≡ f p = ap f k in omega (arith, t)
sum_other f (o ∷ os) (suc w) p n e = omega (arith, sum_other f os w p n e)

pub sum_more : (f : Pending → ℕ) (claims : List (Option Pending)) (w : ℕ) (n : Pending) → w < length claims → claim_of claims w ≡ None → claims_by f (slice_set claims w (Some n)) ≡ claims_by f claims + f n
sum_more f [] w n h e = absurd (omega (arith, h))
sum_more f (None ∷ os) zero n h e = omega arith
sum_more f (Some r ∷ os) zero n h e = cc
sum_more f (o ∷ os) (suc w) n h e = omega (arith, sum_more f os w n (omega (arith, h)) e)
