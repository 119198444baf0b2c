-- The sums of rates, and of ticks, one by one.
use Rattle.std.proofs.Common.{ℕ, zero, suc, ◌+◌, ◌<◌, ◌≤◌, ◌≡◌, ◌∙◌, ap, sym, refl, List, [], ◌∷◌, arith, Some, None, nat_eq, nat_le, nat_lt, ◌&&◌, Bool, true, false, slice_index_or}
use Rattle.std.specs.Prelude.{ℤ, pos, ◌+ℤ◌, ◌*ℤ◌, if◌then◌else◌}
use Rattle.std.proofs.lemmas.Int.{ints}
use Rattle.std.proofs.lemmas.Bool.{ltb-true, ltb-false, leb-true, leb-false}
use Rattle.san_law.specs.Net.{Net, Rated, Span}
use Rattle.san_law.specs.Reward.{is_within, leaf_sum, plus, rates_sum, sum_ticks, zero_sum}
use Rattle.san_law.proofs.Tallies.{plus_first}
use Rattle.san_reward.specs.inner.Present.{amount, amount_in, amounts, fault, faults, faults_in, overlap, shown, times}

-- sums with faults counted apart
shown_plus : (a b : ℤ) (m n : ℕ) → plus (shown a m) (shown b n) ≡ shown (a +ℤ b) (m + n)
shown_plus a b zero zero = refl
shown_plus a b zero (suc n) = let z : suc n ≡ 0 + suc n = omega arith in ap (shown (a +ℤ b)) z
shown_plus a b (suc m) n = let z : suc (m + n) ≡ suc m + n = omega arith in ap (shown (a +ℤ b)) z

one_shown : (c : Bool) (w : Rated) → (if c then w else zero_sum) ≡ shown (if c then amount w else pos 0) (if c then fault w else 0)
one_shown true None = refl
one_shown true (Some w) = refl
one_shown false w = refl

leaf_shown : (r : ℕ) (qs : List ℕ) (ws : List Rated) → leaf_sum r qs ws ≡ shown (amount_in r qs ws) (faults_in r qs ws)
leaf_shown r [] ws = refl
leaf_shown r (q ∷ qs) [] = refl
leaf_shown r (q ∷ qs) (w ∷ ws) =
    let c = nat_eq q r in
    ap (λ x. plus x (leaf_sum r qs ws)) (one_shown c w)
    ∙ (ap (plus (shown (if c then amount w else pos 0) (if c then fault w else 0))) (leaf_shown r qs ws)
    ∙ shown_plus (if c then amount w else pos 0) (amount_in r qs ws) (if c then fault w else 0) (faults_in r qs ws))

pub rates_shown : (net : Net) (r i : ℕ) (terms : List (List ℕ)) (rates : List (List Rated)) → ((j : ℕ) → net.terms (i + j) ≡ slice_index_or terms j []) → rates_sum net r i rates ≡ shown (amounts r terms rates) (faults r terms rates)
rates_shown net r i [] [] h = refl
rates_shown net r i (qs ∷ terms) [] h = refl
rates_shown net r i [] (ws ∷ rates) h =
    let z : i ≡ i + 0 = omega arith in
    ap (λ x. plus x (rates_sum net r (suc i) rates)) (ap (λ qs. leaf_sum r qs ws) (ap net.terms z ∙ h 0))
    ∙ (plus_first (rates_sum net r (suc i) rates) ∙ (rates_shown net r (suc i) [] rates (λ j. let y : suc i + j ≡ i + suc j = omega arith in ap net.terms y ∙ h (suc j)) ∙ no_terms rates))
  where
    no_terms : (rates : List (List Rated)) → shown (amounts r [] rates) (faults r [] rates) ≡ zero_sum
    no_terms rates = refl
rates_shown net r i (qs ∷ terms) (ws ∷ rates) h =
    let z : i ≡ i + 0 = omega arith in
    ap (λ x. plus x (rates_sum net r (suc i) rates)) (ap (λ ks. leaf_sum r ks ws) (ap net.terms z ∙ h 0) ∙ leaf_shown r qs ws)
    ∙ (ap (plus (shown (amount_in r qs ws) (faults_in r qs ws))) (rates_shown net r (suc i) terms rates (λ j. let y : suc i + j ≡ i + suc j = omega arith in ap net.terms y ∙ h (suc j)))
    ∙ shown_plus (amount_in r qs ws) (amounts r terms rates) (faults_in r qs ws) (faults r terms rates))

-- the same once more
times_more : (k : ℕ) (w : Rated) → plus w (times k w) ≡ times (suc k) w
times_more zero None = refl
times_more (suc k) None = refl
times_more zero (Some w) = let e : w +ℤ pos 0 ≡ w *ℤ pos 1 = omega (arith, ints) in ap (λ x. Some x) e
times_more (suc k) (Some w) = let e : w +ℤ w *ℤ pos (suc k) ≡ w *ℤ pos (suc (suc k)) = more w (suc k) in ap (λ x. Some x) e
  where
    more : (w : ℤ) (k : ℕ) → w +ℤ w *ℤ pos k ≡ w *ℤ pos (suc k)
    more w k = grind (arith, ints)

-- the ticks within an interval, one tick more in front
tick_in : (s : Span) (a b : ℕ) → a < b → s.from ≤ a → a < s.to → overlap s a b ≡ suc (overlap s (suc a) b)
tick_in s a b h k l = omega (arith, h, k, l)

tick_before : (s : Span) (a b : ℕ) → a < s.from → overlap s a b ≡ overlap s (suc a) b
tick_before s a b h = omega (arith, h)

tick_after : (s : Span) (a b : ℕ) → s.to ≤ a → overlap s a b ≡ overlap s (suc a) b
tick_after s a b h = omega (arith, h)

module _ (s : Span) (w : Rated) where
  abbrev each : ℕ → Rated
  each u = if is_within s u then w else zero_sum

  one_tick : (p q : Bool) (a b : ℕ) → nat_le s.from a ≡ p → nat_lt a s.to ≡ q → a < b → plus (if p && q then w else zero_sum) (times (overlap s (suc a) b) w) ≡ times (overlap s a b) w
  one_tick true true a b e f h = times_more (overlap s (suc a) b) w ∙ ap (λ k. times k w) (sym (tick_in s a b h (leb-true s.from a e) (ltb-true a s.to f)))
  one_tick true false a b e f h = plus_first (times (overlap s (suc a) b) w) ∙ ap (λ k. times k w) (sym (tick_after s a b (ltb-false a s.to f)))
  one_tick false q a b e f h = plus_first (times (overlap s (suc a) b) w) ∙ ap (λ k. times k w) (sym (tick_before s a b (leb-false s.from a e)))

  pub ticks_are : (a n b : ℕ) → b ≡ a + n → sum_ticks each a n ≡ times (overlap s a b) w
  ticks_are a zero b e = none (overlap s a b) (let z : overlap s a b ≡ 0 = omega (arith, e) in z)
    where
      none : (k : ℕ) → k ≡ 0 → zero_sum ≡ times k w
      none k z = ap (λ j. times j w) (sym z)
  ticks_are a (suc n) b e =
      ap (plus (each a)) (ticks_are (suc a) n b (omega (arith, e)))
      ∙ one_tick (nat_le s.from a) (nat_lt a s.to) a b refl refl (omega (arith, e))
