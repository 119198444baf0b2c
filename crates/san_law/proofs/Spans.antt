-- The ticks of a reward's interval.
use Rattle.std.proofs.Common.{ℕ, ◌+◌, ◌-◌, ◌<◌, ◌≤◌, ◌≡◌, ◌∙◌, ◌⊎◌, inl, inr, ap, sym, refl, Bool, true, false, arith, nat_le, nat_lt, ◌&&◌, cond}
use Rattle.std.proofs.Math.Bool.{and-false}
use Rattle.std.proofs.lemmas.Bool.{cases_lt, le-leb, lt-leb, lt-ltb, ltb-true}
use Rattle.san_law.specs.Net.{Rated, Span}
use Rattle.san_law.specs.Reward.{is_within, plus, sum_ticks, zero_sum}
use Rattle.san_law.proofs.Tallies.{plus_first, plus_last, sum_like, sum_none, sum_split}

-- which ticks are within
pub before_within : (s : Span) (t : ℕ) → t < s.from → is_within s t ≡ false
before_within s t h = ap (λ b. b && nat_lt t s.to) (lt-leb s.from t h)

pub after_within : (s : Span) (t : ℕ) → s.to ≤ t → is_within s t ≡ false
after_within s t h = by_test (nat_lt t s.to) refl
  where
    by_test : (b : Bool) → nat_lt t s.to ≡ b → is_within s t ≡ false
    by_test true e = absurd (apart (ltb-true t s.to e))
      where
        apart : t < s.to → ⊥
        apart l = omega (arith, h, l)
    by_test false e = ap (λ b. nat_le s.from t && b) e ∙ and-false (nat_le s.from t)

pub is_in_span : (s : Span) (t : ℕ) → s.from ≤ t → t < s.to → is_within s t ≡ true
is_in_span s t a b = ap (λ c. c && nat_lt t s.to) (le-leb s.from t a) ∙ lt-ltb t s.to b

abbrev pub in_span : Span → (ℕ → Rated) → ℕ → Rated
in_span s f t = cond (is_within s t) (f t) zero_sum

pub none_of : (s : Span) (f : ℕ → Rated) (t : ℕ) → is_within s t ≡ false → in_span s f t ≡ zero_sum
none_of s f t e = ap (λ b. cond b (f t) zero_sum) e

-- the ticks before the interval and after it add nothing
pub span_ordered : (s : Span) (f : ℕ → Rated) (n : ℕ) → s.to ≤ n → s.from ≤ s.to → sum_ticks (in_span s f) 0 n ≡ sum_ticks f s.from (s.to - s.from)
span_ordered s f n h k =
    let g = in_span s f in
    let m = s.to - s.from in
    let z : n ≡ s.from + (m + (n - s.to)) = omega (arith, h, k) in
    let w : 0 + s.from ≡ s.from = omega arith in
    let first : sum_ticks g 0 s.from ≡ zero_sum = sum_none g 0 s.from (λ t a b. none_of s f t (before_within s t (omega (arith, b)))) in
    let last : sum_ticks g (s.from + m) (n - s.to) ≡ zero_sum = sum_none g (s.from + m) (n - s.to) (λ t a b. none_of s f t (after_within s t (omega (arith, a, k)))) in
    let between : sum_ticks g s.from m ≡ sum_ticks f s.from m = sum_like g f s.from m (λ t a b. ap (λ q. cond q (f t) zero_sum) (is_in_span s t a (omega (arith, b, k)))) in
    ap (sum_ticks g 0) z
    ∙ (sum_split g 0 s.from (m + (n - s.to))
    ∙ (ap (λ x. plus x (sum_ticks g (0 + s.from) (m + (n - s.to)))) first
    ∙ (plus_first (sum_ticks g (0 + s.from) (m + (n - s.to)))
    ∙ (ap (λ a. sum_ticks g a (m + (n - s.to))) w
    ∙ (sum_split g s.from m (n - s.to)
    ∙ (ap (plus (sum_ticks g s.from m)) last
    ∙ (plus_last (sum_ticks g s.from m) ∙ between)))))))

pub span_empty : (s : Span) (f : ℕ → Rated) (n : ℕ) → s.to < s.from → sum_ticks (in_span s f) 0 n ≡ sum_ticks f s.from (s.to - s.from)
span_empty s f n h =
    let z : s.to - s.from ≡ 0 = omega (arith, h) in
    sum_none (in_span s f) 0 n (λ t a b. none_of s f t (outside t (cases_lt t s.from))) ∙ sym (ap (sum_ticks f s.from) z)
  where
    outside : (t : ℕ) → (t < s.from) ⊎ (s.from ≤ t) → is_within s t ≡ false
    outside t (inl l) = before_within s t l
    outside t (inr l) = after_within s t (omega (arith, l, h))

pub span_sum : (s : Span) (f : ℕ → Rated) (n : ℕ) → s.to ≤ n → sum_ticks (in_span s f) 0 n ≡ sum_ticks f s.from (s.to - s.from)
span_sum s f n h = by_case (cases_lt s.to s.from)
  where
    by_case : (s.to < s.from) ⊎ (s.from ≤ s.to) → sum_ticks (in_span s f) 0 n ≡ sum_ticks f s.from (s.to - s.from)
    by_case (inl l) = span_empty s f n l
    by_case (inr l) = span_ordered s f n h l
