-- Two lists are equal, one by one.
use Rattle.std.proofs.Common.{ℕ, zero, suc, ◌+◌, ◌^◌, ◌<◌, ◌≤◌, ◌≡◌, ◌∙◌, ap, sym, subst, List, [], ◌∷◌, arith, slice_index_or, length, map, Bool, false}
use Rattle.san_base.specs.declared.limits.TheConstants.{MAX_HORIZON}
use Rattle.std.specs.Prelude.{All, IsTrue}
use Rattle.san_net.specs.Network.{span_in}
use Rattle.san_net.specs.declared.part.Span as interval
use Rattle.san_reward.proofs.Counting.{span_ends}

abbrev or_head : {Y : Type 0} → Y → List Y → Y
or_head d [] = d
or_head d (z ∷ zs) = z

abbrev tail : {Y : Type 0} → List Y → List Y
tail [] = []
tail (z ∷ zs) = zs

module _ {X Y : Type 0} (f : X → Y) where
  one_same : (a b : List X) (n : ℕ) (d e : X) → n < length a → n < length b → map f a ≡ map f b → f (slice_index_or a n d) ≡ f (slice_index_or b n e)
  one_same [] b n d e h l is = absurd (omega (arith, h))
  one_same (v ∷ a) [] n d e h l is = absurd (omega (arith, l))
  one_same (v ∷ a) (w ∷ b) zero d e h l is = ap (or_head (f v)) is
  one_same (v ∷ a) (w ∷ b) (suc n) d e h l is = one_same a b n d e (omega (arith, h)) (omega (arith, l)) (ap tail is)

  -- two that differ
  pub differ : (a b : List X) (n : ℕ) (d e x y : X) (r : Bool) → n < length a → n < length b → f x ≡ f (slice_index_or a n d) → f y ≡ f (slice_index_or b n e) → (f x ≡ f y → IsTrue r) → r ≡ false → (IsTrue false → map f a ≡ map f b) × (map f a ≡ map f b → IsTrue false)
  differ a b n d e x y r h l p q same not = ((λ t. cc), (λ is. subst IsTrue not (same (p ∙ (one_same a b n d e h l is ∙ sym q)))))

pub low_at : (spans : List interval.Span) (r : ℕ) (d : interval.Span) → r < length spans → All (λ s. s.to ≤ MAX_HORIZON + 1) (map span_in spans) → (span_in (slice_index_or spans r d)).to < 2 ^ 64
low_at spans r d h all = let most = span_ends spans r d h all in omega (arith, most)
