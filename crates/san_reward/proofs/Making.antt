-- A tally as it is opened.
use Rattle.std.proofs.Common.{ℕ, zero, suc, ◌+◌, ◌*◌, ◌^◌, ◌<◌, ◌≤◌, ◌≡◌, ◌∙◌, ap, sym, refl, subst, List, [], ◌∷◌, ◌++◌, arith, Option, Some, None, nat_eq, Bool, true, false, cond, take, replicate, slice_index_or, length, map}
use Rattle.san_base.specs.declared.limits.TheConstants.{MAX_HORIZON}
use Rattle.std.specs.Prelude.{pos, ◌+ℤ◌, All, slice_get, if◌then◌else◌}
use Rattle.std.specs.List.{count_by}
use Rattle.std.proofs.lemmas.Bool.Decides.{nat_tests}
use Rattle.std.proofs.lemmas.List.{get_or-replicate, get_or_append_left, length-append, length-map, length-replicate, map-append, take_more}
use Rattle.std.proofs.lemmas.List.Sums.{sum_by-cons}
use Rattle.std.proofs.lemmas.Simd.{map-map}
use Rattle.san_law.specs.Net.{Rated}
use Rattle.san_law.specs.Reward.{zero_sum}
use Rattle.san_net.specs.Laid.{IsNetwork, IsSpan}
use Rattle.san_net.specs.Network.{Network, span_in}
use Rattle.san_net.specs.declared.part.Part.{Part}
use Rattle.san_net.specs.declared.part.Reward.{Reward}
use Rattle.san_net.specs.declared.part.Span as interval
use Rattle.san_net.specs.declared.part.Span.TheVariants as span
use Rattle.san_reward.specs.Smallness.{IsAtMost}
use Rattle.san_reward.specs.inner.Present.{amount_in, amounts, faults, faults_in, no_present, present_at, present_of, terms_of}
use Rattle.san_reward.specs.inner.Present as counts
use Rattle.san_reward.specs.inner.Counted.{HasSums}
use Rattle.san_reward.specs.Running.{no_rates, opened, running_of, terms_in}
use Rattle.san_reward.specs.declared.present.Present.{Present}

-- one row more
pub rows_more : {V X P : Type 0} (g : V → X) (f : P → X) (parts : List P) (table now : List V) (v : V) (i : ℕ) (p : P) → i < length parts → slice_index_or parts i p ≡ p → map g table ≡ map f (take i parts) → now ≡ table ++ v ∷ [] → g v ≡ f p → map g now ≡ map f (take (i + 1) parts)
rows_more g f parts table now v i p h is before e same =
    ap (map g) e
    ∙ (map-append g table (v ∷ [])
    ∙ (ap (λ xs. xs ++ g v ∷ []) before
    ∙ (ap (λ x. map f (take i parts) ++ x ∷ []) (same ∙ ap f (sym is))
    ∙ (sym (map-append f (take i parts) (slice_index_or parts i p ∷ [])) ∙ ap (map f) (sym (take_more parts i p h))))))

abbrev some_or : {P : Type 0} → P → Option P → P
some_or p None = p
some_or p (Some x) = x

pub got : {P : Type 0} (parts : List P) (i : ℕ) (p : P) → slice_get parts i ≡ Some p → slice_index_or parts i p ≡ p
got [] i p e = refl
got (x ∷ xs) zero p e = ap (some_or p) e
got (x ∷ xs) (suc i) p e = got xs i p e

-- where all rates are 0
none_in : (r : ℕ) (qs : List ℕ) (m : ℕ) → amount_in r qs (replicate m zero_sum) ≡ pos 0
none_in r [] m = refl
none_in r (q ∷ qs) zero = refl
none_in r (q ∷ qs) (suc m) = ap (λ x. (if nat_eq q r then pos 0 else pos 0) +ℤ x) (none_in r qs m) ∙ nothing (nat_eq q r)
  where
    nothing : (b : Bool) → (if b then pos 0 else pos 0) +ℤ pos 0 ≡ pos 0
    nothing true = refl
    nothing false = refl

no_fault_in : (r : ℕ) (qs : List ℕ) (m : ℕ) → faults_in r qs (replicate m zero_sum) ≡ 0
no_fault_in r [] m = refl
no_fault_in r (q ∷ qs) zero = refl
no_fault_in r (q ∷ qs) (suc m) = ap (λ x. (if nat_eq q r then 0 else 0) + x) (no_fault_in r qs m) ∙ nothing (nat_eq q r)
  where
    nothing : (b : Bool) → (if b then 0 else 0) + 0 ≡ 0
    nothing true = refl
    nothing false = refl

no_amounts : (r : ℕ) (parts : List Part) → amounts r (map terms_in parts) (map no_rates parts) ≡ pos 0
no_amounts r [] = refl
no_amounts r (p ∷ parts) = ap (λ x. x +ℤ amounts r (map terms_in parts) (map no_rates parts)) (none_in r (terms_in p) (length p.atomic.rates)) ∙ ap (λ x. pos 0 +ℤ x) (no_amounts r parts)

no_faults : (r : ℕ) (parts : List Part) → faults r (map terms_in parts) (map no_rates parts) ≡ 0
no_faults r [] = refl
no_faults r (p ∷ parts) = ap (λ x. x + faults r (map terms_in parts) (map no_rates parts)) (no_fault_in r (terms_in p) (length p.atomic.rates)) ∙ ap (λ x. 0 + x) (no_faults r parts)

pub zeros_read : (n r : ℕ) → slice_index_or (replicate n zero_sum) r zero_sum ≡ zero_sum
zeros_read zero r = refl
zeros_read (suc n) zero = refl
zeros_read (suc n) (suc r) = zeros_read n r

pub with_first : {X : Type 0} (P : X → Type 0) (x : X) (xs : List X) → P x → All P xs → All P (x ∷ xs)
with_first P x xs h all = each
  where
    each : All P (x ∷ xs)
    each zero d l = h
    each (suc k) d l = all k d (omega (arith, l))

-- the intervals end by the greatest horizon's tick
span_low : (s : interval.Span) → IsSpan s → (span_in s).to ≤ MAX_HORIZON + 1
span_low (span.Over from to) h = h.1
span_low (span.Mean from to) h = h.1
span_low (span.At tick) h = omega (arith, h)

pub spans_low : (rs : List Reward) → All (λ r. IsSpan r.span) rs → All (λ s. s.to ≤ MAX_HORIZON + 1) (map (λ r. span_in r.span) rs)
spans_low [] h = λ k d l. absurd (omega (arith, l))
spans_low (r ∷ rs) h = with_first (λ s. s.to ≤ MAX_HORIZON + 1) (span_in r.span) (map (λ x. span_in x.span) rs) (span_low r.span (h 0 r (omega arith))) (spans_low rs (λ j x m. h (suc j) x (omega (arith, m))))

-- a reward's terms are few
pub few_in : (r : ℕ) (qs ms : List ℕ) → counts.terms_in r qs ≤ count_by (nat_eq r) (qs ++ ms)
few_in r [] ms = omega arith
few_in r (q ∷ qs) ms =
    let more = few_in r qs ms in
    let same : ◌≡◌ {A = ℕ} (if nat_eq q r then 1 else 0) (cond (nat_eq r q) 1 0) = grind (arith, nat_tests) in
    let step : ◌≡◌ {A = ℕ} (count_by (nat_eq r) (q ∷ (qs ++ ms))) (cond (nat_eq r q) 1 0 + count_by (nat_eq r) (qs ++ ms)) = sum_by-cons (λ y. cond (nat_eq r y) 1 0) q (qs ++ ms) in
    omega (arith, more, same, step)

few_of : (r : ℕ) (parts : List Part) → ((k : ℕ) (p : Part) → slice_get parts k ≡ Some p → counts.terms_in r (terms_in p) ≤ 16) → terms_of r (map terms_in parts) ≤ 16 * length parts
few_of r [] h = omega arith
few_of r (p ∷ parts) h =
    let one = h 0 p refl in
    let more = few_of r parts (λ k q e. h (suc k) q e) in
    omega (arith, one, more)

-- what holds of each part's list holds of all lists
each_row : {X : Type 0} (P : X → Type 0) (f : Part → List X) (parts : List Part) → ((k : ℕ) (p : Part) → slice_get parts k ≡ Some p → All P (f p)) → All (All P) (map f parts)
each_row P f [] h = λ k d l. absurd (omega (arith, l))
each_row P f (p ∷ parts) h = with_first (All P) (f p) (map f parts) (h 0 p refl) (each_row P f parts (λ j q e. h (suc j) q e))

front : {X : Type 0} (P : X → Type 0) (xs ys : List X) → All P (xs ++ ys) → All P xs
front P xs ys h = λ k d l. subst P (get_or_append_left xs ys d k l) (h k d (let n = length-append xs ys in omega (arith, l, n)))

zeros_small : (m : ℕ) → All (IsAtMost (2 ^ 63)) (replicate m zero_sum)
zeros_small m = λ k d l. subst (IsAtMost (2 ^ 63)) (sym (get_or-replicate m k zero_sum d (let n = length-replicate m zero_sum in omega (arith, l, n)))) (omega arith)

same_shape : (parts : List Part) → map length (map no_rates parts) ≡ map length (map terms_in parts)
same_shape [] = refl
same_shape (p ∷ parts) = ap (λ n. n ∷ map length (map no_rates parts)) (length-replicate (length p.atomic.rates) zero_sum ∙ sym (length-map p.atomic.rates (λ t. t.reward))) ∙ ap (λ ns. length (terms_in p) ∷ ns) (same_shape parts)

pub opened_counted : (n : Network) (horizon : ℕ) → IsNetwork n → horizon ≤ MAX_HORIZON → HasSums (opened n horizon) (replicate (length n.rewards) no_present)
opened_counted n horizon is h = record {
  horizon = h;
  time = omega arith;
  impulses = omega arith;
  sums = length-replicate (length n.rewards) zero_sum ∙ sym many;
  sized = length-replicate (length n.rewards) no_present ∙ sym many;
  each = λ r l. get_or-replicate (length n.rewards) r no_present no_present (omega (arith, l, many)) ∙ (ap (λ x. record { sum = x; faults = 0 }) (sym (no_amounts r n.parts)) ∙ ap (λ x. record { sum = amounts r (map terms_in n.parts) (map no_rates n.parts); faults = x }) (sym (no_faults r n.parts)));
  small = λ r. subst (IsAtMost (0 * 2 ^ 79 + 0 * 2 ^ 63)) (sym (zeros_read (length n.rewards) r)) (omega arith);
  spanned = spans_low n.rewards is.rewarded.spans;
  few = λ r. let low = few_of r n.parts (λ k p e. let a = (is.accepted k p e).terms r in let b = few_in r (terms_in p) (map (λ t. t.reward) p.atomic.impulses) in omega (arith, a, b)) in let leaves = is.small.leaves in omega (arith, low, leaves);
  known = each_row (λ q. q < length (map (λ r. span_in r.span) n.rewards)) terms_in n.parts (λ k p e. subst (λ m. All (λ q. q < m) (terms_in p)) (sym many) (front (λ q. q < length n.rewards) (terms_in p) (map (λ t. t.reward) p.atomic.impulses) (is.rewarded.known k p e)));
  shaped = same_shape n.parts;
  bounded = each_row (IsAtMost (2 ^ 63)) no_rates n.parts (λ k p e. zeros_small (length p.atomic.rates));
}
  where
    many : length (map (λ r. span_in r.span) n.rewards) ≡ length n.rewards
    many = length-map n.rewards (λ r. span_in r.span)

module _ (n : Network) (horizon : ℕ) (rs : List Reward) (spans : List interval.Span) (terms : List (List ℕ)) (rates : List (List Rated)) (sums : List Rated) (e : rs ≡ n.rewards) (a : spans ≡ map (λ r. r.span) rs) (b : terms ≡ map terms_in n.parts) (c : rates ≡ map no_rates n.parts) (d : sums ≡ replicate (length rs) zero_sum) where
  pub opened_is : running_of horizon 0 0 spans terms rates sums ≡ opened n horizon
  opened_is =
      ap (λ x. running_of horizon 0 0 x terms rates sums) a
      ∙ (ap (λ x. running_of horizon 0 0 (map (λ r. r.span) rs) x rates sums) b
      ∙ (ap (λ x. running_of horizon 0 0 (map (λ r. r.span) rs) (map terms_in n.parts) x sums) c
      ∙ (ap (running_of horizon 0 0 (map (λ r. r.span) rs) (map terms_in n.parts) (map no_rates n.parts)) d
      ∙ (ap (λ (xs : List Reward). running_of horizon 0 0 (map (λ r. r.span) xs) (map terms_in n.parts) (map no_rates n.parts) (replicate (length xs) zero_sum)) e
      ∙ ap (λ ss. record { horizon = horizon; time = 0; spans = ss; terms = map terms_in n.parts; tally = record { rates = map no_rates n.parts; sums = replicate (length n.rewards) zero_sum; impulses = 0 } }) (map-map span_in (λ r. r.span) n.rewards)))))

  pub opened_keeps : (present : List Present) → present ≡ replicate (length rs) no_present → IsNetwork n → horizon ≤ MAX_HORIZON → HasSums (running_of horizon 0 0 spans terms rates sums) present
  opened_keeps present f is h = subst (λ t. HasSums t present) (sym opened_is) (subst (λ ps. HasSums (opened n horizon) ps) (sym (f ∙ ap (λ (xs : List Reward). replicate (length xs) no_present) e)) (opened_counted n horizon is h))
