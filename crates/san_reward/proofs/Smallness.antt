-- Sums stay small.
use Rattle.std.proofs.Common.{ℕ, zero, suc, ◌+◌, ◌*◌, ◌^◌, ◌≤◌, ◌≡◌, List, [], ◌∷◌, arith, Some, None, nat_eq, Bool, true, false}
use Rattle.std.specs.Prelude.{ℤ, pos, ◌+ℤ◌, ◌*ℤ◌, unsigned_abs, All, if◌then◌else◌}
use Rattle.std.proofs.lemmas.Int.{ints, unsigned_abs-mul}
use Rattle.san_law.specs.Net.{Rated}
use Rattle.san_law.specs.Reward.{plus}
use Rattle.san_reward.specs.Smallness.{IsAtMost}
use Rattle.san_reward.specs.inner.Present.{amount, amount_in, amounts, fault, faults, faults_in, accrued, shown, terms_in, terms_of, times}
use Rattle.san_reward.specs.declared.present.Present.{Present}

pub abs_plus : (a b : ℤ) → unsigned_abs (a +ℤ b) ≤ unsigned_abs a + unsigned_abs b
abs_plus a b = omega (arith, ints)

pub abs_times : (a : ℤ) (n : ℕ) → unsigned_abs (a *ℤ pos n) ≡ unsigned_abs a * n
abs_times a n = unsigned_abs-mul a (pos n)

pub wider : (m n : ℕ) (w : Rated) → m ≤ n → IsAtMost m w → IsAtMost n w
wider m n None h k = tt
wider m n (Some w) h k = omega (arith, h, k)

-- a rate of a leaf
term_at_most : (b : Bool) (w : Rated) → IsAtMost (2 ^ 63) w → unsigned_abs (if b then amount w else pos 0) ≤ (if b then 1 else 0) * 2 ^ 63
term_at_most true None h = omega arith
term_at_most true (Some w) h = omega (arith, h)
term_at_most false w h = omega arith

pub leaf_at_most : (r : ℕ) (qs : List ℕ) (ws : List Rated) → All (IsAtMost (2 ^ 63)) ws → unsigned_abs (amount_in r qs ws) ≤ terms_in r qs * 2 ^ 63
leaf_at_most r [] ws h = omega arith
leaf_at_most r (q ∷ qs) [] h = omega arith
leaf_at_most r (q ∷ qs) (w ∷ ws) h =
    let one = term_at_most (nat_eq q r) w (h 0 w (omega arith)) in
    let more = leaf_at_most r qs ws (λ k d l. h (suc k) d (omega (arith, l))) in
    let both = abs_plus (if nat_eq q r then amount w else pos 0) (amount_in r qs ws) in
    omega (arith, one, more, both)

pub all_at_most : (r : ℕ) (terms : List (List ℕ)) (rates : List (List Rated)) → All (All (IsAtMost (2 ^ 63))) rates → unsigned_abs (amounts r terms rates) ≤ terms_of r terms * 2 ^ 63
all_at_most r [] rates h = omega arith
all_at_most r (qs ∷ terms) [] h = omega arith
all_at_most r (qs ∷ terms) (ws ∷ rates) h =
    let one = leaf_at_most r qs ws (h 0 ws (omega arith)) in
    let more = all_at_most r terms rates (λ k d l. h (suc k) d (omega (arith, l))) in
    let both = abs_plus (amount_in r qs ws) (amounts r terms rates) in
    omega (arith, one, more, both)

fault_few : (b : Bool) (w : Rated) → (if b then fault w else 0) ≤ (if b then 1 else 0)
fault_few true None = omega arith
fault_few true (Some w) = omega arith
fault_few false w = omega arith

pub leaf_few : (r : ℕ) (qs : List ℕ) (ws : List Rated) → faults_in r qs ws ≤ terms_in r qs
leaf_few r [] ws = omega arith
leaf_few r (q ∷ qs) [] = omega arith
leaf_few r (q ∷ qs) (w ∷ ws) =
    let one = fault_few (nat_eq q r) w in
    let more = leaf_few r qs ws in
    omega (arith, one, more)

pub all_few : (r : ℕ) (terms : List (List ℕ)) (rates : List (List Rated)) → faults r terms rates ≤ terms_of r terms
all_few r [] rates = omega arith
all_few r (qs ∷ terms) [] = omega arith
all_few r (qs ∷ terms) (ws ∷ rates) =
    let one = leaf_few r qs ws in
    let more = all_few r terms rates in
    omega (arith, one, more)

-- a sum with so many times a rate more
times_at_most : (n ticks : ℕ) (w : ℤ) → unsigned_abs w ≤ 2 ^ 79 → unsigned_abs (w *ℤ pos ticks) ≤ ticks * 2 ^ 79
times_at_most n ticks w h = rw (abs_times w ticks) (product (unsigned_abs w) ticks h)
  where
    product : (a k : ℕ) → a ≤ 2 ^ 79 → a * k ≤ k * 2 ^ 79
    product a zero h = omega arith
    product a (suc k) h = let more = product a k h in omega (arith, more, h)

pub sum_at_most : (m k : ℕ) (sum w : Rated) → IsAtMost m sum → IsAtMost k w → IsAtMost (m + k) (plus sum w)
sum_at_most m k None w h l = tt
sum_at_most m k (Some a) None h l = tt
sum_at_most m k (Some a) (Some b) h l = let both = abs_plus a b in omega (arith, h, l, both)

shown_times : (ticks f : ℕ) (p : ℤ) → unsigned_abs p ≤ 2 ^ 79 → IsAtMost (ticks * 2 ^ 79) (times ticks (shown p f))
shown_times zero f p h = omega arith
shown_times (suc n) zero p h = times_at_most 0 (suc n) p h
shown_times (suc n) (suc f) p h = tt

pub gone_at_most : (m ticks : ℕ) (sum : Rated) (p : Present) → IsAtMost m sum → unsigned_abs p.sum ≤ 2 ^ 79 → IsAtMost (m + ticks * 2 ^ 79) (accrued sum p ticks)
gone_at_most m ticks sum p h l = sum_at_most m (ticks * 2 ^ 79) sum (times ticks (shown p.sum p.faults)) h (shown_times ticks p.faults p.sum l)

pub one_more_at_most : (m : ℕ) (sum w : Rated) → IsAtMost m sum → IsAtMost (2 ^ 63) w → IsAtMost (m + 2 ^ 63) (plus sum w)
one_more_at_most m sum w h l = sum_at_most m (2 ^ 63) sum w h l
