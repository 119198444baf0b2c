-- Lists changed place by place.
use Rattle.std.proofs.Common.{ℕ, zero, suc, ◌+◌, ◌<◌, ◌≤◌, ◌≡◌, ◌∙◌, ap, sym, refl, List, [], ◌∷◌, arith, nat_eq, ◌≢◌, ◌⊎◌, inl, inr, true, false, slice_set, length}
use Rattle.std.proofs.lemmas.Bool.Decides.{eqb_tells}
use Rattle.std.proofs.lemmas.List.{ext_get_or, get_or-set_same, get_or-set_other, length-set}
use Rattle.san_summary.specs.declared.summary.Summary.{Summary}
use Rattle.san_summary.specs.inner.Joined.{none}
use Rattle.san_summary.specs.inner.Places.{at, by_place}

pub places_long : (f : ℕ → Summary → Summary) (r : ℕ) (ss : List Summary) → length (by_place f r ss) ≡ length ss
places_long f r [] = refl
places_long f r (s ∷ ss) = ap suc (places_long f (suc r) ss)

pub places_at : (f : ℕ → Summary → Summary) (a m i : ℕ) (ss : List Summary) → i < length ss → m ≡ a + i → at (by_place f a ss) i ≡ f m (at ss i)
places_at f a m i [] h e = absurd (omega (arith, h))
places_at f a m zero (s ∷ ss) h e = let k : a ≡ m = omega (arith, e) in ap (λ r. f r s) k
places_at f a m (suc i) (s ∷ ss) h e = places_at f (suc a) m i ss (omega (arith, h)) (omega (arith, e))

pub places_like : (f g : ℕ → Summary → Summary) (a : ℕ) (ss : List Summary) → ((r : ℕ) (s : Summary) → r < a + length ss → f r s ≡ g r s) → by_place f a ss ≡ by_place g a ss
places_like f g a [] h = refl
places_like f g a (s ∷ ss) h =
    ap (λ x. x ∷ by_place f (suc a) ss) (h a s (omega arith))
    ∙ ap (λ x. g a s ∷ x) (places_like f g (suc a) ss (λ r w l. h r w (omega (arith, l))))

-- the first summaries changed, and the others not
pub record Changed (f : ℕ → Summary → Summary) (n : ℕ) (old new : List Summary) : Type 0 where
  pub long : length new ≡ length old
  pub done : (k : ℕ) → k < n → k < length old → at new k ≡ f k (at old k)
  pub left : (k : ℕ) → n ≤ k → at new k ≡ at old k

pub changed_none : (f : ℕ → Summary → Summary) (old : List Summary) → Changed f 0 old old
changed_none f old = record { long = refl; done = λ k h l. absurd (omega (arith, h)); left = λ k h. refl }

pub changed_more : (f : ℕ → Summary → Summary) (n : ℕ) (old new : List Summary) (w : Summary) → Changed f n old new → n < length old → w ≡ f n (at new n) → Changed f (n + 1) old (slice_set new n w)
changed_more f n old new w c h e = record {
  long = length-set new n w ∙ c.long;
  done = λ k l m. here k l m (eqb_tells k n);
  left = λ k l. get_or-set_other new n k w none (above k l) ∙ c.left k (omega (arith, l));
}
  where
    above : (k : ℕ) → n + 1 ≤ k → k ≢ n
    above k l q = absurd (omega (arith, l, q))

    here : (k : ℕ) → k < n + 1 → k < length old → ((nat_eq k n ≡ true) × (k ≡ n)) ⊎ ((nat_eq k n ≡ false) × (k ≢ n)) → at (slice_set new n w) k ≡ f k (at old k)
    here k l m (inl q) = rw q.1 (get_or-set_same new n w none (omega (arith, h, c.long)) ∙ (e ∙ ap (f n) (c.left n (omega arith))))
    here k l m (inr q) = get_or-set_other new n k w none q.1 ∙ c.done k (let d = q.1 in omega (arith, l, d)) m

pub changed_all : (f : ℕ → Summary → Summary) (n : ℕ) (old new : List Summary) → Changed f n old new → length old ≤ n → new ≡ by_place f 0 old
changed_all f n old new c h = ext_get_or none new (by_place f 0 old) (c.long ∙ sym (places_long f 0 old)) (λ k l.
    c.done k (omega (arith, l, h, c.long)) (omega (arith, l, c.long)) ∙ sym (places_at f 0 k k old (omega (arith, l, c.long)) (omega arith)))
