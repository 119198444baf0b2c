-- The first items of a list, one more.
use Rattle.std.proofs.Common.{ℕ, zero, suc, ◌+◌, ◌≡◌, ◌∙◌, ap, sym, List, [], ◌∷◌, ◌++◌, map, Option, Some, None, arith}
use Rattle.std.specs.Prelude.{slice_get, take}

abbrev first_or : {X Y : Type 0} → (X → Y) → Option X → List Y
first_or f None = []
first_or f (Some z) = f z ∷ []

pub taken_more : {X Y : Type 0} (f : X → Y) (xs : List X) (k : ℕ) (x : X) (ys : List Y) → slice_get xs k ≡ Some x → ys ≡ map f (take k xs) → ys ++ (f x ∷ []) ≡ map f (take (k + 1) xs)
taken_more {X} {Y} f xs k x ys is e = let next : suc k ≡ k + 1 = omega arith in
    ap (λ (zs : List Y). zs ++ (f x ∷ [])) e ∙ one_more xs k x is ∙ ap (λ (n : ℕ). map f (take n xs)) next
  where
    one_more : (xs : List X) (k : ℕ) (x : X) → slice_get xs k ≡ Some x → map f (take k xs) ++ (f x ∷ []) ≡ map f (take (suc k) xs)
    one_more [] k x is = absurd cc
    one_more (z ∷ zs) zero x is = ap (first_or f) (sym is)
    one_more (z ∷ zs) (suc k) x is = ap (λ (ws : List Y). f z ∷ ws) (one_more zs k x is)
