-- Lists by number: one item more, and items that differ.
use Rattle.std.proofs.Common.{ℕ, ◌+◌, ◌<◌, ◌≡◌, ◌≢◌, ◌∙◌, inl, inr, ap, sym, List, length, arith, slice_index_or, slice_set}
use Rattle.std.proofs.lemmas.Bool.{cases_eq}
use Rattle.std.proofs.lemmas.List.{get_or-set_other, get_or-set_same}

pub set_same : {X : Type 0} (d : X) (xs : List X) (k i : ℕ) (x : X) → i ≡ k → k < length xs → slice_index_or (slice_set xs k x) i d ≡ x
set_same d xs k i x e h = ap (λ n. slice_index_or (slice_set xs k x) n d) e ∙ get_or-set_same xs k x d h

-- a copy has one item more
pub set_more : {X : Type 0} (d : X) (xs ys : List X) (k : ℕ) (x : X) → k < length xs → x ≡ slice_index_or ys k d
    → ((i : ℕ) → i < k → slice_index_or xs i d ≡ slice_index_or ys i d) → (i : ℕ) → i < k + 1 → slice_index_or (slice_set xs k x) i d ≡ slice_index_or ys i d
set_more d xs ys k x within is so i h = elim (cases_eq i k) [
  | inl e ↦ set_same d xs k i x e within ∙ is ∙ ap (λ n. slice_index_or ys n d) (sym e)
  | inr n ↦ get_or-set_other xs k i x d n ∙ so i (by_less i k h n)
]
  where
    by_less : (i k : ℕ) → i < k + 1 → i ≢ k → i < k
    by_less i k h n = omega (arith, h, n)

-- two lists are the same for one item more
pub same_more : {X : Type 0} (d : X) (xs ys : List X) (k : ℕ) → slice_index_or xs k d ≡ slice_index_or ys k d
    → ((i : ℕ) → i < k → slice_index_or xs i d ≡ slice_index_or ys i d) → (i : ℕ) → i < k + 1 → slice_index_or xs i d ≡ slice_index_or ys i d
same_more d xs ys k is so i h = elim (cases_eq i k) [
  | inl e ↦ ap (λ n. slice_index_or xs n d) e ∙ is ∙ ap (λ n. slice_index_or ys n d) (sym e)
  | inr n ↦ so i (omega (arith, h, n))
]
