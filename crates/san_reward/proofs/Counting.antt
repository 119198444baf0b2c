-- Sums as the time goes on, by number.
use Rattle.std.proofs.Common.{ℕ, zero, suc, ◌+◌, ◌-◌, ◌*◌, ◌^◌, ◌<◌, ◌≤◌, ◌≡◌, ◌∙◌, ap, sym, refl, subst, List, [], ◌∷◌, arith, nat_lt, nat_eq, ◌≢◌, ◌⊎◌, inl, inr, Bool, true, false, cond, slice_index_or, slice_set, length, map}
use Rattle.san_base.specs.declared.limits.TheConstants.{MAX_HORIZON}
use Rattle.std.specs.Prelude.{pos, unsigned_abs, All}
use Rattle.std.proofs.lemmas.Bool.{ltb-true, ltb-false}
use Rattle.std.proofs.lemmas.Bool.Decides.{eqb_tells, nat_tests}
use Rattle.std.proofs.lemmas.List.{ext_get_or, get_or_past, get_or_default, length-map, get_or-set_same, get_or-set_other, length-set}
use Rattle.san_law.specs.Net.{Rated, Span}
use Rattle.san_law.specs.Reward.{no_span, plus, rates_sum, span_of, sum_ticks, sum_worth, tick_sum, worth_by, zero_sum}
use Rattle.san_law.specs.Reward as law
use Rattle.san_law.specs.Tally.{going_on, sum_of, sums_from, tally_worth}
use Rattle.san_law.proofs.Tallies.{plus_last, sums_long, sums_at}
use Rattle.san_reward.specs.Smallness.{IsAtMost}
use Rattle.san_reward.specs.inner.Present.{counted_on, accrued, no_present, overlap, present_at, shown, times}
use Rattle.san_reward.specs.inner.Counted.{HasSums}
use Rattle.san_reward.specs.Running.{Running, advanced, net_in}
use Rattle.san_net.specs.Network.{span_in}
use Rattle.san_net.specs.declared.part.Span as interval
use Rattle.san_reward.specs.declared.present.Present.{Present}
use Rattle.san_reward.proofs.Adding.{rates_shown, ticks_are}
use Rattle.san_reward.proofs.Smallness.{all_at_most, gone_at_most, wider}

pub sums_like : (f g : ℕ → Rated → Rated) (a : ℕ) (ss : List Rated) → ((r : ℕ) (s : Rated) → r < a + length ss → f r s ≡ g r s) → sums_from f a ss ≡ sums_from g a ss
sums_like f g a [] h = refl
sums_like f g a (s ∷ ss) h =
    ap (λ x. x ∷ sums_from f (suc a) ss) (h a s (omega arith))
    ∙ ap (λ x. g a s ∷ x) (sums_like f g (suc a) ss (λ r w l. h r w (omega (arith, l))))

-- a reward's present rates over some ticks, as the law sums them
pub gone_is : (t : Running) (present : List Present) (from to r : ℕ) (sum : Rated) → HasSums t present → r < length t.spans → from ≤ to
    → counted_on t.spans present from to r sum ≡ going_on (net_in t) t.tally from (to - from) r sum
gone_is t present from to r sum c h l =
    let net = net_in t in
    let s = span_of net r in
    let w = rates_sum net r 0 t.tally.rates in
    let p = present_at present r in
    let e : to ≡ from + (to - from) = omega (arith, l) in
    let shows : shown p.sum p.faults ≡ w = ap (λ (q : Present). shown q.sum q.faults) (c.each r h) ∙ sym (rates_shown net r 0 t.terms t.tally.rates (λ j. let z : 0 + j ≡ j = omega arith in ap (λ k. slice_index_or t.terms k []) z)) in
    ap (λ x. plus sum (times (overlap s from to) x)) shows ∙ ap (plus sum) (sym (ticks_are s w from (to - from) to e))

-- what a tally is with these sums at a time
abbrev pub with_sums : Running → ℕ → List Rated → Running
with_sums t to sums = record t { time = to; tally = record { rates = t.tally.rates; sums = sums; impulses = t.tally.impulses } }

pub counts_on : (t : Running) (present : List Present) (to : ℕ) → HasSums t present → t.time ≤ to → with_sums t to (sums_from (counted_on t.spans present t.time to) 0 t.tally.sums) ≡ advanced t to
counts_on t present to c h =
    let z : t.tally.impulses ≡ t.tally.impulses + 0 = omega arith in
    let same : sums_from (counted_on t.spans present t.time to) 0 t.tally.sums ≡ sums_from (λ r sum. plus (going_on (net_in t) t.tally t.time (to - t.time) r sum) zero_sum) 0 t.tally.sums =
    sums_like (counted_on t.spans present t.time to) (λ r sum. plus (going_on (net_in t) t.tally t.time (to - t.time) r sum) zero_sum) 0 t.tally.sums
    (λ r sum l. gone_is t present t.time to r sum c (omega (arith, l, c.sums)) h ∙ sym (plus_last (going_on (net_in t) t.tally t.time (to - t.time) r sum))) in
    ap (λ ss. with_sums t to ss) same
    ∙ ap (λ n. record t { time = to; tally = record { rates = t.tally.rates; sums = sums_from (λ r sum. plus (going_on (net_in t) t.tally t.time (to - t.time) r sum) zero_sum) 0 t.tally.sums; impulses = n } }) z

-- the present rates of each reward are small
pub present_small : (t : Running) (present : List Present) (r : ℕ) → HasSums t present → unsigned_abs (present_at present r).sum ≤ 2 ^ 79
present_small t present r c = by_number (nat_lt r (length t.spans)) refl
  where
    by_number : (b : Bool) → nat_lt r (length t.spans) ≡ b → unsigned_abs (present_at present r).sum ≤ 2 ^ 79
    by_number true e =
        let few = c.few r in
        let most = all_at_most r t.terms t.tally.rates c.bounded in
        rw (c.each r (ltb-true r (length t.spans) e)) (omega (arith, few, most))
    by_number false e = rw (none present (let l = ltb-false r (length t.spans) e in omega (arith, l, c.sized))) (omega arith)
      where
        none : (ps : List Present) → length ps ≤ r → present_at ps r ≡ record { sum = pos 0; faults = 0 }
        none ps h = get_or_past ps r no_present h

pub few_ticks : (s : Span) (from to : ℕ) → overlap s from to ≤ to - from
few_ticks s from to = omega arith

-- the first sums of a list changed by number, and the others not
pub record Changed (f : ℕ → Rated → Rated) (n : ℕ) (old new : List Rated) : Type 0 where
  pub long : length new ≡ length old
  pub done : (k : ℕ) → k < n → k < length old → slice_index_or new k zero_sum ≡ f k (slice_index_or old k zero_sum)
  pub left : (k : ℕ) → n ≤ k → slice_index_or new k zero_sum ≡ slice_index_or old k zero_sum

pub changed_none : (f : ℕ → Rated → Rated) (old : List Rated) → Changed f 0 old old
changed_none f old = record { long = refl; done = λ k h l. absurd (omega (arith, h)); left = λ k h. refl }

pub changed_more : (f : ℕ → Rated → Rated) (n : ℕ) (old new : List Rated) (w : Rated) → Changed f n old new → n < length old → w ≡ f n (slice_index_or new n zero_sum) → Changed f (n + 1) old (slice_set new n w)
changed_more f n old new w c h e = record {
  long = length-set new n w ∙ c.long;
  done = λ k l m. here k l m (eqb_tells k n);
  left = λ k l. get_or-set_other new n k w zero_sum (above k l) ∙ c.left k (omega (arith, l));
}
  where
    above : (k : ℕ) → n + 1 ≤ k → k ≢ n
    above k l q = absurd (omega (arith, l, q))

    here : (k : ℕ) → k < n + 1 → k < length old → ((nat_eq k n ≡ true) × (k ≡ n)) ⊎ ((nat_eq k n ≡ false) × (k ≢ n)) → slice_index_or (slice_set new n w) k zero_sum ≡ f k (slice_index_or old k zero_sum)
    here k l m (inl q) = rw q.1 (get_or-set_same new n w zero_sum (omega (arith, h, c.long)) ∙ (e ∙ ap (f n) (c.left n (omega arith))))
    here k l m (inr q) = get_or-set_other new n k w zero_sum q.1 ∙ c.done k (let d = q.1 in omega (arith, l, d)) m

pub changed_all : (f : ℕ → Rated → Rated) (n : ℕ) (old new : List Rated) → Changed f n old new → length old ≤ n → new ≡ sums_from f 0 old
changed_all f n old new c h = ext_get_or zero_sum new (sums_from f 0 old) (c.long ∙ sym (sums_long f 0 old)) (λ k l.
    c.done k (omega (arith, l, h, c.long)) (omega (arith, l, c.long)) ∙ sym (sums_at f 0 k k old (omega (arith, l, c.long)) (omega arith)))

-- all sums are small at the later time
pub small_on : (t : Running) (present : List Present) (to r : ℕ) → HasSums t present → t.time ≤ to → IsAtMost (to * 2 ^ 79 + t.tally.impulses * 2 ^ 63) (slice_index_or (sums_from (counted_on t.spans present t.time to) 0 t.tally.sums) r zero_sum)
small_on t present to r c h = by_number (nat_lt r (length t.tally.sums)) refl
  where
    f : ℕ → Rated → Rated
    f = counted_on t.spans present t.time to

    by_number : (b : Bool) → nat_lt r (length t.tally.sums) ≡ b → IsAtMost (to * 2 ^ 79 + t.tally.impulses * 2 ^ 63) (slice_index_or (sums_from f 0 t.tally.sums) r zero_sum)
    by_number true e =
        let ticks = overlap (slice_index_or t.spans r no_span) t.time to in
        let few = few_ticks (slice_index_or t.spans r no_span) t.time to in
        rw (sums_at f 0 r r t.tally.sums (ltb-true r (length t.tally.sums) e) (omega arith))
        (wider (t.time * 2 ^ 79 + t.tally.impulses * 2 ^ 63 + ticks * 2 ^ 79) (to * 2 ^ 79 + t.tally.impulses * 2 ^ 63) (f r (sum_of t.tally r)) (omega (arith, few, h))
        (gone_at_most (t.time * 2 ^ 79 + t.tally.impulses * 2 ^ 63) ticks (sum_of t.tally r) (present_at present r) (c.small r) (present_small t present r c)))
    by_number false e = rw (get_or_past (sums_from f 0 t.tally.sums) r zero_sum (let l = ltb-false r (length t.tally.sums) e in let k = sums_long f 0 t.tally.sums in omega (arith, l, k))) (omega arith)

pub stays_counted : (t : Running) (present : List Present) (to : ℕ) → HasSums t present → t.time ≤ to → to ≤ t.horizon → HasSums (with_sums t to (sums_from (counted_on t.spans present t.time to) 0 t.tally.sums)) present
stays_counted t present to c h l = record {
  horizon = c.horizon;
  time = l;
  impulses = c.impulses;
  sums = sums_long (counted_on t.spans present t.time to) 0 t.tally.sums ∙ c.sums;
  sized = c.sized;
  each = c.each;
  small = λ r. small_on t present to r c h;
  spanned = c.spanned;
  few = c.few;
  known = c.known;
  shaped = c.shaped;
  bounded = c.bounded;
}

-- an interval by its reward's number, whatever stands for one that is not there
pub span_at : (spans : List interval.Span) (r : ℕ) (d : interval.Span) → r < length spans → span_in (slice_index_or spans r d) ≡ slice_index_or (map span_in spans) r no_span
span_at [] r d h = absurd (omega (arith, h))
span_at (s ∷ ss) zero d h = refl
span_at (s ∷ ss) (suc r) d h = span_at ss r d (omega (arith, h))

pub span_ends : (spans : List interval.Span) (r : ℕ) (d : interval.Span) → r < length spans → All (λ s. s.to ≤ MAX_HORIZON + 1) (map span_in spans) → (span_in (slice_index_or spans r d)).to ≤ MAX_HORIZON + 1
span_ends spans r d h all = let many = length-map spans span_in in rw (span_at spans r d h) (all r no_span (omega (arith, h, many)))

pub span_low : (spans : List interval.Span) (r : ℕ) (s : interval.Span) → s ≡ slice_index_or spans r s → r < length spans → All (λ s. s.to ≤ MAX_HORIZON + 1) (map span_in spans) → (span_in s).to < 2 ^ 64
span_low spans r s e h all = let most = span_ends spans r s h all in let same = ap (λ (q : interval.Span). (span_in q).to) e in omega (arith, most, same)

-- a sum that is read from a list
pub same_sum : (sums : List Rated) (r : ℕ) (v : Rated) → v ≡ slice_index_or sums r v → r < length sums → v ≡ slice_index_or sums r zero_sum
same_sum sums r v e h = e ∙ get_or_default sums r v zero_sum h

pub sum_small : (n : ℕ) (sums : List Rated) (r : ℕ) (v : Rated) → v ≡ slice_index_or sums r v → r < length sums → IsAtMost n (slice_index_or sums r zero_sum) → IsAtMost n v
sum_small n sums r v e h k = subst (IsAtMost n) (sym (same_sum sums r v e h)) k

pub same_present : (present : List Present) (r : ℕ) (p : Present) → p ≡ slice_index_or present r p → r < length present → p ≡ present_at present r
same_present present r p e h = e ∙ get_or_default present r p no_present h

pub present_low : (present : List Present) (r : ℕ) (p : Present) → p ≡ slice_index_or present r p → r < length present → unsigned_abs (present_at present r).sum ≤ 2 ^ 79 → unsigned_abs p.sum ≤ 2 ^ 79
present_low present r p e h k = subst (λ (q : Present). unsigned_abs q.sum ≤ 2 ^ 79) (sym (same_present present r p e h)) k

pub gone_same : (spans : List interval.Span) (present : List Present) (from to r ticks : ℕ) (sums : List Rated) (w v : Rated) (s : interval.Span) (p : Present) → s ≡ slice_index_or spans r s → p ≡ slice_index_or present r p → v ≡ slice_index_or sums r v → r < length spans → r < length present → r < length sums
    → ticks ≡ overlap (span_in s) from to → w ≡ accrued v p ticks → w ≡ counted_on (map span_in spans) present from to r (slice_index_or sums r zero_sum)
gone_same spans present from to r ticks sums w v s p a b d h k l e is = is ∙ (ap (λ x. accrued x p ticks) (same_sum sums r v d l) ∙ (ap (λ q. accrued (slice_index_or sums r zero_sum) q ticks) (same_present present r p b k)
    ∙ ap (accrued (slice_index_or sums r zero_sum) (present_at present r)) (e ∙ ap (λ x. overlap x from to) (ap span_in a ∙ span_at spans r s h))))

-- an advance
pub advanced_is : (t : Running) (present : List Present) (to : ℕ) (sums : List Rated) → HasSums t present → t.time ≤ to → sums ≡ sums_from (counted_on t.spans present t.time to) 0 t.tally.sums → with_sums t to sums ≡ advanced t to
advanced_is t present to sums c h e = ap (with_sums t to) e ∙ counts_on t present to c h

pub advanced_counted : (t : Running) (present : List Present) (to : ℕ) (sums : List Rated) → HasSums t present → t.time ≤ to → to ≤ t.horizon → sums ≡ sums_from (counted_on t.spans present t.time to) 0 t.tally.sums → HasSums (with_sums t to sums) present
advanced_counted t present to sums c h l e = subst (λ ss. HasSums (with_sums t to ss) present) (sym e) (stays_counted t present to c h l)

-- all sums are far inside 128 bits
pub sum_fits : (t : Running) (present : List Present) (r : ℕ) → HasSums t present → IsAtMost (2 ^ 120) (sum_of t.tally r)
sum_fits t present r c = let low = c.time in let top = c.horizon in let given = c.impulses in wider (t.time * 2 ^ 79 + t.tally.impulses * 2 ^ 63) (2 ^ 120) (sum_of t.tally r) (omega (arith, low, top, given)) (c.small r)

-- the same of a value that a tally is seen as
pub advance_ends : (t u : Running) (present : List Present) (to : ℕ) (sums : List Rated) → u ≡ t → HasSums t present → u.time ≤ to → sums ≡ sums_from (counted_on t.spans present t.time to) 0 t.tally.sums → with_sums t to sums ≡ advanced u to
advance_ends t u present to sums e c h is = let same = ap (λ (x : Running). x.time) e in advanced_is t present to sums c (omega (arith, h, same)) is ∙ ap (λ x. advanced x to) (sym e)

pub advance_counted : (t u : Running) (present : List Present) (to : ℕ) (sums : List Rated) → u ≡ t → HasSums t present → u.time ≤ to → to ≤ u.horizon → sums ≡ sums_from (counted_on t.spans present t.time to) 0 t.tally.sums → HasSums (with_sums t to sums) present
advance_counted t u present to sums e c h l is = let same = ap (λ (x : Running). x.time) e in let end = ap (λ (x : Running). x.horizon) e in advanced_counted t present to sums c (omega (arith, h, same)) (omega (arith, l, end)) is

-- a worth
pub value_ends : (t u : Running) (present : List Present) (r : ℕ) (sum : Rated) (s : interval.Span) (p : Present) (v : Rated) (spans : List interval.Span) (ticks : ℕ) (w : law.Worth) → u ≡ t → HasSums t present → r < length u.spans → t.spans ≡ map span_in spans → s ≡ slice_index_or spans r s → p ≡ slice_index_or present r p → v ≡ slice_index_or t.tally.sums r v
    → ticks ≡ overlap (span_in s) t.time (t.horizon + 1) → sum ≡ accrued v p ticks → w ≡ sum_worth (span_in s) sum → nat_lt (t.horizon + 1) (span_in s).to ≡ false → w ≡ tally_worth (net_in u) u.tally u.time r
value_ends t u present r sum s p v spans ticks w e c h f a b d k is worth timely =
    let many = ap (λ (x : Running). length x.spans) e in
    let size = ap length f ∙ length-map spans span_in in
    let now = c.time in
    let span : span_in s ≡ span_of (net_in t) r = ap span_in a ∙ (span_at spans r s (omega (arith, h, many, size)) ∙ ap (λ ss. slice_index_or ss r no_span) (sym f)) in
    let gone : sum ≡ going_on (net_in t) t.tally t.time (t.horizon + 1 - t.time) r (sum_of t.tally r) =
    gone_same spans present t.time (t.horizon + 1) r ticks t.tally.sums sum v s p a b d (omega (arith, h, many, size)) (omega (arith, h, many, c.sized)) (omega (arith, h, many, c.sums)) k is
    ∙ (ap (λ ss. counted_on ss present t.time (t.horizon + 1) r (sum_of t.tally r)) (sym f) ∙ gone_is t present t.time (t.horizon + 1) r (sum_of t.tally r) c (omega (arith, h, many)) (omega (arith, now))) in
    worth
    ∙ (ap (λ b. cond b law.Beyond (sum_worth (span_in s) sum)) (sym timely)
    ∙ (ap (λ x. worth_by t.horizon x sum) span
    ∙ (ap (worth_by t.horizon (span_of (net_in t) r)) gone
    ∙ ap (λ (x : Running). tally_worth (net_in x) x.tally x.time r) (sym e))))

pub beyond_ends : (t u : Running) (r : ℕ) (s : interval.Span) (spans : List interval.Span) → u ≡ t → r < length u.spans → t.spans ≡ map span_in spans → s ≡ slice_index_or spans r s → nat_lt (t.horizon + 1) (span_in s).to ≡ true → law.Beyond ≡ tally_worth (net_in u) u.tally u.time r
beyond_ends t u r s spans e h f a late =
    let many = ap (λ (x : Running). length x.spans) e in
    let size = ap length f ∙ length-map spans span_in in
    let sum = going_on (net_in t) t.tally t.time (t.horizon + 1 - t.time) r (sum_of t.tally r) in
    let span : span_in s ≡ span_of (net_in t) r = ap span_in a ∙ (span_at spans r s (omega (arith, h, many, size)) ∙ ap (λ ss. slice_index_or ss r no_span) (sym f)) in
    ap (λ b. cond b law.Beyond (sum_worth (span_in s) sum)) (sym late)
    ∙ (ap (λ x. worth_by t.horizon x sum) span ∙ ap (λ (x : Running). tally_worth (net_in x) x.tally x.time r) (sym e))

-- an interval ends far inside 64 bits
pub span_is_low : (t u : Running) (present : List Present) (r : ℕ) (s : interval.Span) (spans : List interval.Span) → u ≡ t → HasSums t present → r < length u.spans → t.spans ≡ map span_in spans → s ≡ slice_index_or spans r s → (span_in s).to < 2 ^ 64
span_is_low t u present r s spans e c h f a =
    let many = ap (λ (x : Running). length x.spans) e in
    let size = ap length f ∙ length-map spans span_in in
    span_low spans r s a (omega (arith, h, many, size)) (subst (λ ss. All (λ x. x.to ≤ MAX_HORIZON + 1) ss) f c.spanned)

pub present_is_low : (t u : Running) (present : List Present) (r : ℕ) (p : Present) → u ≡ t → HasSums t present → r < length u.spans → p ≡ slice_index_or present r p → unsigned_abs p.sum ≤ 2 ^ 79
present_is_low t u present r p e c h b = let many = ap (λ (x : Running). length x.spans) e in present_low present r p b (omega (arith, h, many, c.sized)) (present_small t present r c)

pub sum_is_low : (t u : Running) (present : List Present) (r : ℕ) (v : Rated) → u ≡ t → HasSums t present → r < length u.spans → v ≡ slice_index_or t.tally.sums r v → IsAtMost (2 ^ 120) v
sum_is_low t u present r v e c h d = let many = ap (λ (x : Running). length x.spans) e in sum_small (2 ^ 120) t.tally.sums r v d (omega (arith, h, many, c.sums)) (sum_fits t present r c)

pub not_late : (a b : ℕ) → b ≤ a → nat_lt a b ≡ false
not_late a b h = grind (arith, nat_tests)
