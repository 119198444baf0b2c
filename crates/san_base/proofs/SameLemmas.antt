-- Lists that are compared item by item.
use Rattle.std.proofs.Common.{◌≡◌, ℕ, zero, suc, ◌+◌, ◌<◌, ◌≤◌, List, [], ◌∷◌, length, take, get_or, refl, sym, ap, ◌∙◌, arith}
use Rattle.std.proofs.lemmas.List.{take_all}

step : {A : Type 0} (xs ys : List A) (i : ℕ) (c d : A) → i < length xs → length xs ≡ length ys → take i xs ≡ take i ys → get_or xs i c ≡ get_or ys i d → take (suc i) xs ≡ take (suc i) ys
step [] ys i c d lt e so_far is = absurd (omega arith)
step (x ∷ xs) [] i c d lt e so_far is = absurd (omega (arith, e))
step (x ∷ xs) (y ∷ ys) zero c d lt e so_far is = ap (λ (z : _). z ∷ []) is
step (x ∷ xs) (y ∷ ys) (suc i) c d lt e so_far is =
    let head : x ≡ y = cc in
    let tail : take i xs ≡ take i ys = cc in
    ap (λ (z : _). z ∷ take (suc i) xs) head ∙ ap (λ (zs : List _). y ∷ zs) (step xs ys i c d (omega arith) (omega (arith, e)) tail is)

-- one item more alike
pub same_turn : {A : Type 0} (xs ys : List A) (i : ℕ) (c d : A) → i < length xs → length xs ≡ length ys → take i xs ≡ take i ys → get_or xs i c ≡ get_or ys i d → take (i + 1) xs ≡ take (i + 1) ys
same_turn xs ys i c d lt e so_far is = let one : i + 1 ≡ suc i = omega arith in ap (λ (k : ℕ). take k xs) one ∙ step xs ys i c d lt e so_far is ∙ ap (λ (k : ℕ). take k ys) (sym one)

pub same_all : {A : Type 0} (xs ys : List A) (i : ℕ) → length xs ≤ i → length xs ≡ length ys → take i xs ≡ take i ys → xs ≡ ys
same_all xs ys i le e so_far = sym (take_all i xs le) ∙ so_far ∙ take_all i ys (omega (arith, e))

pub at_any : {A : Type 0} (xs : List A) (i : ℕ) (c d : A) → i < length xs → get_or xs i c ≡ get_or xs i d
at_any [] i c d lt = absurd (omega arith)
at_any (x ∷ xs) zero c d lt = refl
at_any (x ∷ xs) (suc i) c d lt = at_any xs i c d (omega arith)

pub at_same : {A : Type 0} (xs ys : List A) (i : ℕ) (c d : A) → i < length xs → xs ≡ ys → get_or xs i c ≡ get_or ys i d
at_same xs ys i c d lt e = at_any xs i c d lt ∙ ap (λ (zs : List _). get_or zs i d) e
