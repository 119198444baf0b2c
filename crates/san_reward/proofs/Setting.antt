-- One rate set, and one impulse counted.
use Rattle.std.proofs.Common.{ℕ, zero, suc, ◌+◌, ◌-◌, ◌*◌, ◌^◌, ◌<◌, ◌≤◌, ◌≡◌, ◌≢◌, ◌⊎◌, inl, inr, ◌∙◌, ap, sym, refl, subst, List, [], ◌∷◌, arith, None, nat_lt, nat_eq, Bool, true, false, slice_index_or, slice_set, length, map}
use Rattle.san_base.specs.declared.limits.TheConstants.{MAX_IMPULSES, MAX_LEAVES}
use Rattle.std.specs.Prelude.{ℤ, pos, ◌+ℤ◌, ◌-ℤ◌, All, if◌then◌else◌}
use Rattle.std.proofs.lemmas.Int.{ints}
use Rattle.std.proofs.lemmas.Bool.{eq-eqb, ltb-true, ltb-false, ne_eqb}
use Rattle.std.proofs.lemmas.Bool.Decides.{eqb_tells}
use Rattle.std.proofs.lemmas.List.{get_or-map, get_or-set_same, get_or-set_other, length-map, length-set, get_or_past}
use Rattle.std.proofs.lemmas.List.Elements.{All-set}
use Rattle.san_reward.proofs.Smallness.{all_few, one_more_at_most, wider}
use Rattle.san_reward.proofs.Counting.{span_at}
use Rattle.san_net.specs.Network.{span_in}
use Rattle.san_net.specs.declared.part.Span as interval
use Rattle.san_law.specs.Net.{Rated}
use Rattle.san_law.specs.Reward.{is_within, no_span, plus, span_of, zero_sum}
use Rattle.san_law.specs.Tally.{sum_of}
use Rattle.san_reward.specs.Running.{counted_at}
use Rattle.san_reward.specs.Smallness.{IsAtMost}
use Rattle.san_reward.specs.inner.Present.{amount, amount_in, amounts, fault, faults, faults_in, no_present, present_at, present_of, replaced}
use Rattle.san_reward.specs.inner.Counted.{HasSums}
use Rattle.san_reward.specs.Running.{Running, net_in, rates_with, with_all_rates, with_impulse, with_rate}
use Rattle.san_reward.specs.declared.present.Present.{Present}

abbrev part : ℕ → ℕ → Rated → ℤ
part q r w = if nat_eq q r then amount w else pos 0

abbrev faulty : ℕ → ℕ → Rated → ℕ
faulty q r w = if nat_eq q r then fault w else 0

-- another rate in a leaf's sum
leaf_set : (r k : ℕ) (qs : List ℕ) (ws : List Rated) (w : Rated) → k < length qs → k < length ws → amount_in r qs (slice_set ws k w) +ℤ part (slice_index_or qs k 0) r (slice_index_or ws k None) ≡ amount_in r qs ws +ℤ part (slice_index_or qs k 0) r w
leaf_set r k [] ws w h l = absurd (omega (arith, h))
leaf_set r k (q ∷ qs) [] w h l = absurd (omega (arith, l))
leaf_set r zero (q ∷ qs) (v ∷ ws) w h l = around (part q r w) (amount_in r qs ws) (part q r v)
  where
    around : (a b c : ℤ) → (a +ℤ b) +ℤ c ≡ (c +ℤ b) +ℤ a
    around a b c = omega (arith, ints)
leaf_set r (suc k) (q ∷ qs) (v ∷ ws) w h l = more (part q r v) (amount_in r qs (slice_set ws k w)) (part (slice_index_or qs k 0) r (slice_index_or ws k None)) (amount_in r qs ws) (part (slice_index_or qs k 0) r w) (leaf_set r k qs ws w (omega (arith, h)) (omega (arith, l)))
  where
    more : (a b c d e : ℤ) → b +ℤ c ≡ d +ℤ e → (a +ℤ b) +ℤ c ≡ (a +ℤ d) +ℤ e
    more a b c d e h = omega (arith, ints, h)

leaf_fault : (r k : ℕ) (qs : List ℕ) (ws : List Rated) (w : Rated) → k < length qs → k < length ws → faults_in r qs (slice_set ws k w) + faulty (slice_index_or qs k 0) r (slice_index_or ws k None) ≡ faults_in r qs ws + faulty (slice_index_or qs k 0) r w
leaf_fault r k [] ws w h l = absurd (omega (arith, h))
leaf_fault r k (q ∷ qs) [] w h l = absurd (omega (arith, l))
leaf_fault r zero (q ∷ qs) (v ∷ ws) w h l = omega arith
leaf_fault r (suc k) (q ∷ qs) (v ∷ ws) w h l = let more = leaf_fault r k qs ws w (omega (arith, h)) (omega (arith, l)) in omega (arith, more)

-- and in the sum over all leaves
module _ (r k : ℕ) (w : Rated) where
  abbrev reward_at : List (List ℕ) → ℕ → ℕ
  reward_at terms j = slice_index_or (slice_index_or terms j []) k 0

  abbrev rate_at : List (List Rated) → ℕ → Rated
  rate_at rates j = slice_index_or (slice_index_or rates j []) k None

  pub all_set : (j : ℕ) (terms : List (List ℕ)) (rates : List (List Rated)) → j < length terms → j < length rates → k < length (slice_index_or terms j []) → k < length (slice_index_or rates j []) → amounts r terms (rates_with rates j k w) +ℤ part (reward_at terms j) r (rate_at rates j) ≡ amounts r terms rates +ℤ part (reward_at terms j) r w
  all_set j [] rates h l m n = absurd (omega (arith, h))
  all_set j (qs ∷ terms) [] h l m n = absurd (omega (arith, l))
  all_set zero (qs ∷ terms) (ws ∷ rates) h l m n = more (amount_in r qs (slice_set ws k w)) (amounts r terms rates) (part (slice_index_or qs k 0) r (slice_index_or ws k None)) (amount_in r qs ws) (part (slice_index_or qs k 0) r w) (leaf_set r k qs ws w m n)
    where
      more : (a b c d e : ℤ) → a +ℤ c ≡ d +ℤ e → (a +ℤ b) +ℤ c ≡ (d +ℤ b) +ℤ e
      more a b c d e h = omega (arith, ints, h)
  all_set (suc j) (qs ∷ terms) (ws ∷ rates) h l m n = more (amount_in r qs ws) (amounts r terms (rates_with rates j k w)) (part (reward_at terms j) r (rate_at rates j)) (amounts r terms rates) (part (reward_at terms j) r w) (all_set j terms rates (omega (arith, h)) (omega (arith, l)) m n)
    where
      more : (a b c d e : ℤ) → b +ℤ c ≡ d +ℤ e → (a +ℤ b) +ℤ c ≡ (a +ℤ d) +ℤ e
      more a b c d e h = omega (arith, ints, h)

  pub all_fault : (j : ℕ) (terms : List (List ℕ)) (rates : List (List Rated)) → j < length terms → j < length rates → k < length (slice_index_or terms j []) → k < length (slice_index_or rates j []) → faults r terms (rates_with rates j k w) + faulty (reward_at terms j) r (rate_at rates j) ≡ faults r terms rates + faulty (reward_at terms j) r w
  all_fault j [] rates h l m n = absurd (omega (arith, h))
  all_fault j (qs ∷ terms) [] h l m n = absurd (omega (arith, l))
  all_fault zero (qs ∷ terms) (ws ∷ rates) h l m n = let more = leaf_fault r k qs ws w m n in omega (arith, more)
  all_fault (suc j) (qs ∷ terms) (ws ∷ rates) h l m n = let more = all_fault j terms rates (omega (arith, h)) (omega (arith, l)) m n in omega (arith, more)

part_of : (q : ℕ) (w : Rated) → part q q w ≡ amount w
part_of q w = ap (λ b. if b then amount w else pos 0) (eq-eqb q q refl)

faulty_of : (q : ℕ) (w : Rated) → faulty q q w ≡ fault w
faulty_of q w = ap (λ b. if b then fault w else 0) (eq-eqb q q refl)

-- the fault that is replaced was counted
pub fault_within : (k j q : ℕ) (terms : List (List ℕ)) (rates : List (List Rated)) → q ≡ reward_at q k zero_sum terms j → j < length terms → j < length rates → k < length (slice_index_or terms j []) → k < length (slice_index_or rates j []) → fault (rate_at q k zero_sum rates j) ≤ faults q terms rates
fault_within k j q terms rates e h l m n =
    let whole = all_fault q k zero_sum j terms rates h l m n in
    let one = ap (λ p. faulty p q (rate_at q k zero_sum rates j)) (sym e) ∙ faulty_of q (rate_at q k zero_sum rates j) in
    let none = ap (λ p. faulty p q zero_sum) (sym e) ∙ faulty_of q zero_sum in
    omega (arith, whole, one, none)

module _ (k j q : ℕ) (w : Rated) (terms : List (List ℕ)) (rates : List (List Rated)) (e : q ≡ reward_at q k w terms j) (h : j < length terms) (l : j < length rates) (m : k < length (slice_index_or terms j [])) (n : k < length (slice_index_or rates j [])) where
  abbrev was : Rated
  was = rate_at q k w rates j

  -- the sum of the reward that the term is of
  same_reward : present_of q terms (rates_with rates j k w) ≡ replaced (present_of q terms rates) was w
  same_reward =
      let sums = all_set q k w j terms rates h l m n in
      let out = ap (λ p. part p q was) (sym e) ∙ part_of q was in
      let into = ap (λ p. part p q w) (sym e) ∙ part_of q w in
      let counts = all_fault q k w j terms rates h l m n in
      let fault_out = ap (λ p. faulty p q was) (sym e) ∙ faulty_of q was in
      let fault_into = ap (λ p. faulty p q w) (sym e) ∙ faulty_of q w in
      let low = fault_within k j q terms rates e h l m n in
      let sum : amounts q terms (rates_with rates j k w) ≡ (amounts q terms rates -ℤ amount was) +ℤ amount w = omega (arith, ints, sums, out, into) in
      let many : faults q terms (rates_with rates j k w) ≡ faults q terms rates - fault was + fault w = omega (arith, counts, fault_out, fault_into, low) in
      ap (λ s. record { sum = s; faults = faults q terms (rates_with rates j k w) }) sum ∙ ap (λ f. record { sum = (amounts q terms rates -ℤ amount was) +ℤ amount w; faults = f }) many

  -- and of another one
  other_reward : (r : ℕ) → r ≢ q → present_of r terms (rates_with rates j k w) ≡ present_of r terms rates
  other_reward r d =
      let sums = all_set r k w j terms rates h l m n in
      let counts = all_fault r k w j terms rates h l m n in
      let test : nat_eq (reward_at r k w terms j) r ≡ false = ap (λ p. nat_eq p r) (sym e) ∙ ne_eqb q r (λ s. d (sym s)) in
      let out = ap (λ b. if b then amount was else pos 0) test in
      let into = ap (λ b. if b then amount w else pos 0) test in
      let fault_out = ap (λ b. if b then fault was else 0) test in
      let fault_into = ap (λ b. if b then fault w else 0) test in
      let sum : amounts r terms (rates_with rates j k w) ≡ amounts r terms rates = omega (arith, ints, sums, out, into) in
      let many : faults r terms (rates_with rates j k w) ≡ faults r terms rates = omega (arith, counts, fault_out, fault_into) in
      ap (λ s. record { sum = s; faults = faults r terms (rates_with rates j k w) }) sum ∙ ap (λ f. record { sum = amounts r terms rates; faults = f }) many

-- how long each leaf's list of rates is
long_at : (f g : List (List ℕ)) (rates : List (List Rated)) (j : ℕ) → map length rates ≡ map length f → j < length f → length (slice_index_or rates j []) ≡ length (slice_index_or f j [])
long_at f g rates j e h =
    let many = ap length e in
    let out = length-map rates length in
    let into = length-map f length in
    sym (get_or-map length rates j [] 0 (omega (arith, h, many, out, into))) ∙ (ap (λ (ns : List ℕ). slice_index_or ns j 0) e ∙ get_or-map length f j [] 0 h)

pub leaves_long : (terms : List (List ℕ)) (rates : List (List Rated)) → map length rates ≡ map length terms → length rates ≡ length terms
leaves_long terms rates e = sym (length-map rates length) ∙ (ap length e ∙ length-map terms length)

pub rates_long : (terms : List (List ℕ)) (rates : List (List Rated)) (j : ℕ) → map length rates ≡ map length terms → j < length terms → length (slice_index_or rates j []) ≡ length (slice_index_or terms j [])
rates_long terms rates j e h = long_at terms terms rates j e h

shape_kept : (rates : List (List Rated)) (j k : ℕ) (w : Rated) → map length (rates_with rates j k w) ≡ map length rates
shape_kept [] j k w = refl
shape_kept (ws ∷ rates) zero k w = ap (λ n. n ∷ map length rates) (length-set ws k w)
shape_kept (ws ∷ rates) (suc j) k w = ap (λ ns. length ws ∷ ns) (shape_kept rates j k w)

-- a term's reward is one of them
pub reward_known : (t : Running) (present : List Present) (j k : ℕ) → HasSums t present → j < length t.terms → k < length (slice_index_or t.terms j []) → slice_index_or (slice_index_or t.terms j []) k 0 < length t.spans
reward_known t present j k c h m = c.known j [] h k 0 m

pub rate_counted : (t : Running) (present : List Present) (j k q : ℕ) (w v : Rated) → HasSums t present → j < length t.terms → k < length (slice_index_or t.terms j []) → IsAtMost (2 ^ 63) w
    → q ≡ slice_index_or (slice_index_or t.terms j []) k 0 → v ≡ slice_index_or (slice_index_or t.tally.rates j []) k None → HasSums (with_rate t j k w) (slice_set present q (replaced (present_at present q) v w))
rate_counted t present j k q w v c h m small e is = record {
  horizon = c.horizon;
  time = c.time;
  impulses = c.impulses;
  sums = c.sums;
  sized = length-set present q (replaced (present_at present q) v w) ∙ c.sized;
  each = λ r l. by_reward r l (eqb_tells r q);
  small = c.small;
  spanned = c.spanned;
  few = c.few;
  known = c.known;
  shaped = shape_kept t.tally.rates j k w ∙ c.shaped;
  bounded = All-set (All (IsAtMost (2 ^ 63))) t.tally.rates j (slice_set (slice_index_or t.tally.rates j []) k w) (All-set (IsAtMost (2 ^ 63)) (slice_index_or t.tally.rates j []) k w small (c.bounded j [] many)) c.bounded;
}
  where
    many : j < length t.tally.rates
    many = let k = leaves_long t.terms t.tally.rates c.shaped in omega (arith, h, k)

    long : k < length (slice_index_or t.tally.rates j [])
    long = let n = rates_long t.terms t.tally.rates j c.shaped h in omega (arith, m, n)

    within : q < length t.spans
    within = let l = reward_known t present j k c h m in omega (arith, l, e)

    by_reward : (r : ℕ) → r < length t.spans → ((nat_eq r q ≡ true) × (r ≡ q)) ⊎ ((nat_eq r q ≡ false) × (r ≢ q)) → present_at (slice_set present q (replaced (present_at present q) v w)) r ≡ present_of r t.terms (rates_with t.tally.rates j k w)
    by_reward r l (inl s) = rw s.1 (get_or-set_same present q (replaced (present_at present q) v w) no_present (omega (arith, within, c.sized)) ∙ (ap (λ p. replaced p v w) (c.each q within) ∙ (ap (λ u. replaced (present_of q t.terms t.tally.rates) u w) is ∙ sym (same_reward k j q w t.terms t.tally.rates e h many m long))))
    by_reward r l (inr s) = get_or-set_other present q r (replaced (present_at present q) v w) no_present s.1 ∙ (c.each r l ∙ sym (other_reward k j q w t.terms t.tally.rates e h many m long r s.1))

-- an impulse counted
pub impulse_counted : (t : Running) (present : List Present) (r : ℕ) (w : Rated) → HasSums t present → t.tally.impulses < MAX_IMPULSES → IsAtMost (2 ^ 63) w → HasSums (with_impulse t r w) present
impulse_counted t present r w c few h = record {
  horizon = c.horizon;
  time = c.time;
  impulses = omega (arith, few);
  sums = length-set t.tally.sums r (plus (sum_of t.tally r) added) ∙ c.sums;
  sized = c.sized;
  each = c.each;
  small = λ s. by_reward s (eqb_tells s r);
  spanned = c.spanned;
  few = c.few;
  known = c.known;
  shaped = c.shaped;
  bounded = c.bounded;
}
  where
    added : Rated
    added = counted_at (span_of (net_in t) r) t.time w

    added_small : (b : Bool) → IsAtMost (2 ^ 63) (if b then w else zero_sum)
    added_small true = h
    added_small false = omega arith

    bound : ℕ
    bound = t.time * 2 ^ 79 + (t.tally.impulses + 1) * 2 ^ 63

    inside : (b : Bool) → nat_lt r (length t.tally.sums) ≡ b → IsAtMost bound (slice_index_or (slice_set t.tally.sums r (plus (sum_of t.tally r) added)) r zero_sum)
    inside true e = rw (get_or-set_same t.tally.sums r (plus (sum_of t.tally r) added) zero_sum (ltb-true r (length t.tally.sums) e))
        (wider (t.time * 2 ^ 79 + t.tally.impulses * 2 ^ 63 + 2 ^ 63) bound (plus (sum_of t.tally r) added) (omega arith) (one_more_at_most (t.time * 2 ^ 79 + t.tally.impulses * 2 ^ 63) (sum_of t.tally r) added (c.small r) (added_small (is_within (span_of (net_in t) r) t.time))))
    inside false e = rw (get_or_past (slice_set t.tally.sums r (plus (sum_of t.tally r) added)) r zero_sum (let l = ltb-false r (length t.tally.sums) e in let k = length-set t.tally.sums r (plus (sum_of t.tally r) added) in omega (arith, l, k))) (omega arith)

    by_reward : (s : ℕ) → ((nat_eq s r ≡ true) × (s ≡ r)) ⊎ ((nat_eq s r ≡ false) × (s ≢ r)) → IsAtMost bound (slice_index_or (slice_set t.tally.sums r (plus (sum_of t.tally r) added)) s zero_sum)
    by_reward s (inl e) = rw e.1 (inside (nat_lt r (length t.tally.sums)) refl)
    by_reward s (inr d) = rw (get_or-set_other t.tally.sums r s (plus (sum_of t.tally r) added) zero_sum d.1) (wider (t.time * 2 ^ 79 + t.tally.impulses * 2 ^ 63) bound (sum_of t.tally s) (omega arith) (c.small s))

-- a tally with these sums and an impulse more
abbrev pub with_counted : Running → List Rated → Running
with_counted t sums = record t { tally = record { rates = t.tally.rates; sums = sums; impulses = t.tally.impulses + 1 } }

-- the reward of a term that is set, and the rate before
module _ (t u : Running) (present : List Present) (j k : ℕ) (e : u ≡ t) (c : HasSums t present) (h : j < length u.terms) (m : k < length (slice_index_or u.terms j [])) where
  leaf_in : j < length t.terms
  leaf_in = let same = ap (λ (x : Running). length x.terms) e in omega (arith, h, same)

  term_in : k < length (slice_index_or t.terms j [])
  term_in = let same = ap (λ (x : Running). length (slice_index_or x.terms j [])) e in omega (arith, m, same)

  pub rates_in : k < length (slice_index_or t.tally.rates j [])
  rates_in = let n = rates_long t.terms t.tally.rates j c.shaped leaf_in in let l = term_in in omega (arith, l, n)

  pub leaf_of_rates : j < length t.tally.rates
  leaf_of_rates = let n = leaves_long t.terms t.tally.rates c.shaped in let l = leaf_in in omega (arith, l, n)

  module _ (q : ℕ) (is : q ≡ slice_index_or (slice_index_or t.terms j []) k 0) where
    pub reward_in : q < length present
    reward_in = let l = reward_known t present j k c leaf_in term_in in let n = c.sized in omega (arith, l, n, is)

    reward_of_tally : q < length t.spans
    reward_of_tally = let l = reward_known t present j k c leaf_in term_in in omega (arith, l, is)

    pub faults_few : (present_at present q).faults ≤ MAX_LEAVES * 16
    faults_few = let few = c.few q in let most = all_few q t.terms t.tally.rates in let same = ap (λ (p : Present). p.faults) (c.each q reward_of_tally) in omega (arith, few, most, same)

    module _ (v : Rated) (was : v ≡ slice_index_or (slice_index_or t.tally.rates j []) k None) where
      pub fault_in : fault v ≤ (present_at present q).faults
      fault_in = let low = fault_within k j q t.terms t.tally.rates is leaf_in leaf_of_rates term_in rates_in in let same = ap (λ (p : Present). p.faults) (c.each q reward_of_tally) in let one = ap fault was in omega (arith, low, same, one)

      pub rate_keeps : (w : Rated) (rates : List (List Rated)) (now : List Present) → IsAtMost (2 ^ 63) w → rates ≡ rates_with t.tally.rates j k w → now ≡ slice_set present q (replaced (present_at present q) v w) → HasSums (with_all_rates t rates) now
      rate_keeps w rates now small a b = subst (λ ps. HasSums (with_all_rates t rates) ps) (sym b) (subst (λ rs. HasSums (with_all_rates t rs) (slice_set present q (replaced (present_at present q) v w))) (sym a) (rate_counted t present j k q w v c leaf_in term_in small is was))

  pub rate_ends : (w : Rated) (rates : List (List Rated)) → rates ≡ rates_with t.tally.rates j k w → with_all_rates t rates ≡ with_rate u j k w
  rate_ends w rates a = ap (with_all_rates t) a ∙ ap (λ x. with_rate x j k w) (sym e)

-- an impulse's reward is one of them
module _ (t u : Running) (present : List Present) (r : ℕ) (w added : Rated) (s : interval.Span) (spans : List interval.Span) (sums : List Rated) (e : u ≡ t) (c : HasSums t present) (h : r < length u.spans) (f : t.spans ≡ map span_in spans) (a : s ≡ slice_index_or spans r s) (is : added ≡ counted_at (span_in s) t.time w) (puts : sums ≡ slice_set t.tally.sums r (plus (sum_of t.tally r) added)) where
  counted_sums : sums ≡ slice_set t.tally.sums r (plus (sum_of t.tally r) (counted_at (span_of (net_in t) r) t.time w))
  counted_sums =
      let many = ap (λ (x : Running). length x.spans) e in
      let size = ap length f ∙ length-map spans span_in in
      let span : span_in s ≡ span_of (net_in t) r = ap span_in a ∙ (span_at spans r s (omega (arith, h, many, size)) ∙ ap (λ ss. slice_index_or ss r no_span) (sym f)) in
      puts ∙ ap (λ x. slice_set t.tally.sums r (plus (sum_of t.tally r) x)) (is ∙ ap (λ x. counted_at x t.time w) span)

  pub impulse_ends : with_counted t sums ≡ with_impulse u r w
  impulse_ends = ap (with_counted t) counted_sums ∙ ap (λ x. with_impulse x r w) (sym e)

  pub impulse_keeps : u.tally.impulses < MAX_IMPULSES → IsAtMost (2 ^ 63) w → HasSums (with_counted t sums) present
  impulse_keeps few small = let same = ap (λ (x : Running). x.tally.impulses) e in subst (λ ss. HasSums (with_counted t ss) present) (sym counted_sums) (impulse_counted t present r w c (omega (arith, few, same)) small)
