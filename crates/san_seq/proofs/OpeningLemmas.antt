-- What stands before the first step, one after another.
use Rattle.std.proofs.Common.{ℕ, zero, suc, ◌+◌, ◌≡◌, ◌∙◌, ap, sym, arith, List, [], ◌∷◌, ◌++◌, length, take, Option, Some}
use Rattle.std.specs.Prelude.{slice_get}
use Rattle.san_law.specs.Net as net
use Rattle.san_law.specs.State.{blank_row}
use Rattle.san_net.specs.declared.part.Part.{Part}
use Rattle.san_seq.specs.inner.Openings.{rows_of}

-- one item more is taken
pub take_more : {A : Type 0} (xs : List A) (k : ℕ) (a : A) → slice_get xs k ≡ Some a → take k xs ++ a ∷ [] ≡ take (k + 1) xs
take_more xs k a is = let next : suc k ≡ k + 1 = omega arith in taken xs k a is ∙ ap (λ n. take n xs) next
  where
    same : {A : Type 0} (x y : A) → (let o : Option A = Some x in o) ≡ Some y → x ≡ y
    same x y e = cc

    taken : {A : Type 0} (xs : List A) (k : ℕ) (a : A) → slice_get xs k ≡ Some a → take k xs ++ a ∷ [] ≡ take (suc k) xs
    taken [] k a e = absurd cc
    taken (x ∷ xs) zero a e = ap (λ y. y ∷ []) (sym (same x a e))
    taken (x ∷ xs) (suc k) a e = ap (λ ys. x ∷ ys) (taken xs k a e)

rows_more : (parts : List Part) (j : ℕ) (p : Part) → slice_get parts j ≡ Some p → rows_of (take j parts) ++ blank_row (length p.atomic.acts) ∷ [] ≡ rows_of (take (suc j) parts)
rows_more [] j p is = absurd cc
rows_more (q ∷ qs) zero p is = ap (λ (x : Part). blank_row (length x.atomic.acts) ∷ []) (sym (same q p is))
  where
    same : (x y : Part) → (let o : Option Part = Some x in o) ≡ Some y → x ≡ y
    same x y e = cc
rows_more (q ∷ qs) (suc j) p is = ap (λ (rs : List net.Row). blank_row (length q.atomic.acts) ∷ rs) (rows_more qs j p is)

-- one leaf's row more
pub row_more : (parts : List Part) (j : ℕ) (p : Part) (k : ℕ) (r : net.Row) (rows : List net.Row) → slice_get parts j ≡ Some p → r ≡ blank_row k → k ≡ length p.atomic.acts
    → rows ≡ rows_of (take j parts) → rows ++ r ∷ [] ≡ rows_of (take (j + 1) parts)
row_more parts j p k r rows is blank long before =
    let next : suc j ≡ j + 1 = omega arith in
    ap (λ (rs : List net.Row). rs ++ r ∷ []) before ∙ ap (λ (x : net.Row). rows_of (take j parts) ++ x ∷ []) (blank ∙ ap blank_row long)
    ∙ rows_more parts j p is ∙ ap (λ (n : ℕ). rows_of (take n parts)) next
