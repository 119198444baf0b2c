-- Summaries of lists, put together.
use Rattle.std.proofs.Common.{ℕ, suc, ◌+◌, ◌*◌, ◌≤◌, ◌≡◌, ◌∙◌, ap, sym, subst, refl, ◌||◌, arith, List, [], ◌∷◌, ◌++◌, length, map, All, Option, Some, None, Bool, true, false, cond, length-append}
use Rattle.std.specs.Prelude.{ℤ, pos, ◌+ℤ◌, ◌*ℤ◌, unsigned_abs}
use Rattle.std.specs.List.{list_any}
use Rattle.std.specs.Int.{int_min, int_max}
use Rattle.std.proofs.lemmas.Int.{ints, clamps, unsigned_abs-mul}
use Rattle.std.proofs.lemmas.Bool.{ltb-false}
use Rattle.san_summary.specs.declared.batch.TheConstants.{MAX_RUNS}
use Rattle.san_summary.specs.declared.summary.TheConstants.{MAX_SQUARED}
use Rattle.san_base.specs.declared.limits.TheConstants.{MAX_WORTH}
use Rattle.san_summary.specs.declared.summary.Summary.{Summary}
use Rattle.san_summary.specs.declared.summary.Squares.{Squares}
use Rattle.san_summary.specs.declared.summary.Squares.TheVariants as squares
use Rattle.san_summary.specs.Summaries.{greatest_of, greater, is_wide, least_of, lesser, squares_of, summary_of, total}
use Rattle.san_summary.specs.inner.Joined.{IsSmall, joined, none, one, square_of, squares_and, squares_small}

total_append : (xs ys : List ℤ) → total (xs ++ ys) ≡ total xs +ℤ total ys
total_append [] ys = omega (arith, ints)
total_append (x ∷ xs) ys = let more = total_append xs ys in omega (arith, ints, more)

lesser_more : (a b c : Option ℤ) → lesser (lesser a b) c ≡ lesser a (lesser b c)
lesser_more None b c = refl
lesser_more (Some x) None c = refl
lesser_more (Some x) (Some y) None = refl
lesser_more (Some x) (Some y) (Some z) = let e : int_min (int_min x y) z ≡ int_min x (int_min y z) = omega (arith, ints, clamps) in ap (λ k. Some k) e

greater_more : (a b c : Option ℤ) → greater (greater a b) c ≡ greater a (greater b c)
greater_more None b c = refl
greater_more (Some x) None c = refl
greater_more (Some x) (Some y) None = refl
greater_more (Some x) (Some y) (Some z) = let e : int_max (int_max x y) z ≡ int_max x (int_max y z) = omega (arith, ints, clamps) in ap (λ k. Some k) e

least_append : (xs ys : List ℤ) → least_of (xs ++ ys) ≡ lesser (least_of xs) (least_of ys)
least_append [] ys = refl
least_append (x ∷ xs) ys = ap (lesser (Some x)) (least_append xs ys) ∙ sym (lesser_more (Some x) (least_of xs) (least_of ys))

greatest_append : (xs ys : List ℤ) → greatest_of (xs ++ ys) ≡ greater (greatest_of xs) (greatest_of ys)
greatest_append [] ys = refl
greatest_append (x ∷ xs) ys = ap (greater (Some x)) (greatest_append xs ys) ∙ sym (greater_more (Some x) (greatest_of xs) (greatest_of ys))

-- one square in front
abbrev square : ℤ → ℤ
square x = x *ℤ x

square_by : (p q : Bool) (x : ℤ) (ys : List ℤ) → cond (p || q) squares.Wide (squares.Sum (square x +ℤ total ys)) ≡ squares_and (cond p squares.Wide (squares.Sum (square x))) (cond q squares.Wide (squares.Sum (total ys)))
square_by true q x ys = refl
square_by false true x ys = refl
square_by false false x ys = refl

square_then : (x : ℤ) (xs : List ℤ) → squares_of (x ∷ xs) ≡ squares_and (square_of x) (squares_of xs)
square_then x xs = square_by (is_wide x) (list_any is_wide xs) x (map square xs)

squares_more : (a b c : Squares) → squares_and (squares_and a b) c ≡ squares_and a (squares_and b c)
squares_more squares.Wide b c = refl
squares_more (squares.Sum x) squares.Wide c = refl
squares_more (squares.Sum x) (squares.Sum y) squares.Wide = refl
squares_more (squares.Sum x) (squares.Sum y) (squares.Sum z) = let e : (x +ℤ y) +ℤ z ≡ x +ℤ (y +ℤ z) = omega (arith, ints) in ap (λ k. squares.Sum k) e

squares_first : (a : Squares) → squares_and (squares.Sum (pos 0)) a ≡ a
squares_first squares.Wide = refl
squares_first (squares.Sum x) = let e : pos 0 +ℤ x ≡ x = omega (arith, ints) in ap (λ k. squares.Sum k) e

squares_append : (xs ys : List ℤ) → squares_of (xs ++ ys) ≡ squares_and (squares_of xs) (squares_of ys)
squares_append [] ys = sym (squares_first (squares_of ys))
squares_append (x ∷ xs) ys =
    square_then x (xs ++ ys)
    ∙ ap (squares_and (square_of x)) (squares_append xs ys)
    ∙ sym (squares_more (square_of x) (squares_of xs) (squares_of ys))
    ∙ ap (λ k. squares_and k (squares_of ys)) (sym (square_then x xs))

squares_last : (a : Squares) → squares_and a (squares.Sum (pos 0)) ≡ a
squares_last squares.Wide = refl
squares_last (squares.Sum x) = let e : x +ℤ pos 0 ≡ x = omega (arith, ints) in ap (λ k. squares.Sum k) e

lesser_last : (a : Option ℤ) → lesser a None ≡ a
lesser_last None = refl
lesser_last (Some x) = refl

greater_last : (a : Option ℤ) → greater a None ≡ a
greater_last None = refl
greater_last (Some x) = refl

made : {c d : ℕ} {s t : ℤ} {q r : Squares} {l m g h : Option ℤ} → c ≡ d → s ≡ t → q ≡ r → l ≡ m → g ≡ h
    → (let a : Summary = record { count = c; sum = s; squares = q; least = l; greatest = g } in let b : Summary = record { count = d; sum = t; squares = r; least = m; greatest = h } in a ≡ b)
made a b e f i = cc

-- the summary of a list that is cut in two
pub summary_append : (xs ys : List ℤ) → summary_of (xs ++ ys) ≡ joined (summary_of xs) (summary_of ys)
summary_append xs ys = made (length-append xs ys) (total_append xs ys) (squares_append xs ys) (least_append xs ys) (greatest_append xs ys)

-- that of one number, and of none
pub summary_one : (x : ℤ) → summary_of (x ∷ []) ≡ one x
summary_one x =
    let sum : x +ℤ pos 0 ≡ x = omega (arith, ints) in
    made refl sum (square_then x [] ∙ squares_last (square_of x)) refl refl

pub joined_none : (s : Summary) → joined s none ≡ s
joined_none s =
    let count : s.count + 0 ≡ s.count = omega arith in
    let sum : s.sum +ℤ pos 0 ≡ s.sum = omega (arith, ints) in
    made count sum (squares_last s.squares) (lesser_last s.least) (greater_last s.greatest)

-- a summary of small numbers is small
total_small : (xs : List ℤ) → All (λ x. unsigned_abs x ≤ MAX_WORTH) xs → unsigned_abs (total xs) ≤ length xs * MAX_WORTH
total_small [] h = omega arith
total_small (x ∷ xs) h =
    let one : unsigned_abs x ≤ MAX_WORTH = h 0 x (omega arith) in
    let more = total_small xs (λ k d l. h (suc k) d (omega (arith, l))) in
    omega (arith, ints, one, more)

product_small : (a b : ℕ) → a ≤ b → a * a ≤ b * b
product_small a b h = grind (arith, h)

square_small : (x : ℤ) → is_wide x ≡ false → unsigned_abs (x *ℤ x) ≤ MAX_SQUARED * MAX_SQUARED
square_small x h =
    let e = unsigned_abs-mul x x in
    let l : unsigned_abs x ≤ MAX_SQUARED = ltb-false MAX_SQUARED (unsigned_abs x) h in
    let p = product_small (unsigned_abs x) MAX_SQUARED l in
    omega (arith, e, p)

squares_grow : (n : ℕ) (a b : Squares) → squares_small 1 a → squares_small n b → squares_small (suc n) (squares_and a b)
squares_grow n squares.Wide b h k = tt
squares_grow n (squares.Sum x) squares.Wide h k = tt
squares_grow n (squares.Sum x) (squares.Sum y) h k = omega (arith, ints, h, k)

square_is_small : (x : ℤ) (p : Bool) → is_wide x ≡ p → squares_small 1 (cond p squares.Wide (squares.Sum (square x)))
square_is_small x true e = tt
square_is_small x false e = let l = square_small x e in omega (arith, l)

squares_are_small : (xs : List ℤ) → squares_small (length xs) (squares_of xs)
squares_are_small [] = omega arith
squares_are_small (x ∷ xs) = subst (squares_small (suc (length xs))) (sym (square_then x xs)) (squares_grow (length xs) (square_of x) (squares_of xs) (square_is_small x (is_wide x) refl) (squares_are_small xs))

pub summary_small : (xs : List ℤ) → All (λ x. unsigned_abs x ≤ MAX_WORTH) xs → length xs ≤ MAX_RUNS → IsSmall (summary_of xs)
summary_small xs h few = record { count = few; sum = total_small xs h; squares = squares_are_small xs }
