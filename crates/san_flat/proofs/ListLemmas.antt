-- Lists in which nothing stands twice, by index.
use Rattle.san_base.proofs.NumberTests.{some_same}
use Rattle.std.proofs.Common.{◌≡◌, ℕ, zero, suc, List, [], ◌∷◌, ◌++◌, refl, ap, sym, ◌∙◌, arith, map, inl, inr, ◌⊎◌, Some}
use Rattle.std.specs.Prelude.{slice_get, unwrap_or}
use Rattle.san_net.specs.Apart.{AreApart}

-- what stands in a mapped list
pub got-map : {X Y : Type 0} (f : X → Y) (xs : List X) (i : ℕ) (y : Y) → slice_get (map f xs) i ≡ Some y → (x : X) × ((slice_get xs i ≡ Some x) × (f x ≡ y))
got-map f [] i y h = absurd cc
got-map f (x ∷ xs) zero y h = (x, (refl, some_same (f x) y h))
got-map f (x ∷ xs) (suc i) y h = got-map f xs i y h

pub get-map : {X Y : Type 0} (f : X → Y) (xs : List X) (i : ℕ) (x : X) → slice_get xs i ≡ Some x → slice_get (map f xs) i ≡ Some (f x)
get-map f [] i x h = absurd cc
get-map f (y ∷ xs) zero x h = ap Some (ap f (some_same y x h))
get-map f (y ∷ xs) (suc i) x h = get-map f xs i x h

got-append : {X : Type 0} (xs ys : List X) (i : ℕ) (x : X) → slice_get (xs ++ ys) i ≡ Some x → ((j : ℕ) × (slice_get xs j ≡ Some x)) ⊎ ((j : ℕ) × (slice_get ys j ≡ Some x))
got-append [] ys i x h = inr (i, h)
got-append (y ∷ xs) ys zero x h = inl (0, h)
got-append (y ∷ xs) ys (suc i) x h = later (got-append xs ys i x h)
  where
    later : ((j : ℕ) × (slice_get xs j ≡ Some x)) ⊎ ((j : ℕ) × (slice_get ys j ≡ Some x)) → ((j : ℕ) × (slice_get (y ∷ xs) j ≡ Some x)) ⊎ ((j : ℕ) × (slice_get ys j ≡ Some x))
    later (inl (j, at)) = inl (suc j, at)
    later (inr there) = inr there

pub apart-nil : {X : Type 0} (i j : ℕ) (x : X) → slice_get [] i ≡ Some x → slice_get [] j ≡ Some x → i ≡ j
apart-nil i j x a b = absurd cc

tail-apart : {X : Type 0} (x : X) (xs : List X) → AreApart (x ∷ xs) → AreApart xs
tail-apart x xs h i j y a b = let e = h (suc i) (suc j) y a b in omega (arith, e)

-- the first of a list that is apart isn't in the rest, nor in one that has nothing of the list
head-apart : {X : Type 0} (x : X) (xs ys : List X) → AreApart (x ∷ xs) → ((i j : ℕ) (z : X) → slice_get (x ∷ xs) i ≡ Some z → slice_get ys j ≡ Some z → ⊥) → (j : ℕ) → slice_get (xs ++ ys) j ≡ Some x → ⊥
head-apart x xs ys h n j at = by_part (got-append xs ys j x at)
  where
    by_part : ((k : ℕ) × (slice_get xs k ≡ Some x)) ⊎ ((k : ℕ) × (slice_get ys k ≡ Some x)) → ⊥
    by_part (inl (k, there)) = let e = h 0 (suc k) x refl there in omega (arith, e)
    by_part (inr (k, there)) = n 0 k x refl there

pub apart-append : {X : Type 0} (xs ys : List X) → AreApart xs → AreApart ys → ((i j : ℕ) (x : X) → slice_get xs i ≡ Some x → slice_get ys j ≡ Some x → ⊥) → AreApart (xs ++ ys)
apart-append [] ys a b n i j y at here = b i j y at here
apart-append (x ∷ xs) ys a b n zero zero y i j = refl
apart-append (x ∷ xs) ys a b n zero (suc k) y i j = absurd (head-apart x xs ys a n k (j ∙ sym i))
apart-append (x ∷ xs) ys a b n (suc k) zero y i j = absurd (head-apart x xs ys a n k (i ∙ sym j))
apart-append (x ∷ xs) ys a b n (suc k) (suc l) y i j = ap suc (apart-append xs ys (tail-apart x xs a) b (λ p q z. n (suc p) q z) k l y i j)

-- what differs differs after a function that tells all of the list apart
pub apart-map : {X Y : Type 0} (f : X → Y) (xs : List X) → AreApart xs → ((i j : ℕ) (x y : X) → slice_get xs i ≡ Some x → slice_get xs j ≡ Some y → f x ≡ f y → x ≡ y) → AreApart (map f xs)
apart-map f xs a tells i j y at here =
    let p = got-map f xs i y at in
    let q = got-map f xs j y here in
    a i j p.0 p.1.0 (q.1.0 ∙ ap Some (sym (tells i j p.0 q.0 p.1.0 q.1.0 (p.1.1 ∙ sym q.1.1))))
