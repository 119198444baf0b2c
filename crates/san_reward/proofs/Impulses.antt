-- Impulses counted one after another are those of an event.
use Rattle.std.proofs.Common.{ℕ, suc, ◌+◌, ◌-◌, ◌<◌, ◌≡◌, ◌≢◌, ◌⊎◌, inl, inr, ◌∙◌, ap, sym, refl, List, [], ◌∷◌, arith, nat_eq, Bool, true, false, slice_index_or, slice_set, length}
use Rattle.std.specs.Prelude.{if◌then◌else◌}
use Rattle.std.proofs.lemmas.Bool.{ne_eqb, eq-eqb}
use Rattle.std.proofs.lemmas.Bool.Decides.{eqb_tells}
use Rattle.std.proofs.lemmas.List.{ext_get_or, get_or-set_same, get_or-set_other, length-set}
use Rattle.san_law.specs.Net.{Impulse, Net, Rated, Span}
use Rattle.san_law.specs.Reward.{events_sum, impulses_sum, is_within, plus, span_of, sum_ticks, tick_sum, zero_sum, no_span}
use Rattle.san_law.specs.Step.{Event}
use Rattle.san_law.specs.Tally.{going_on, sums_from, tally_after}
use Rattle.san_law.proofs.Tallies.{plus_assoc, plus_first, plus_last, sums_long, sums_at}
use Rattle.san_reward.specs.Running.{counted_at}
use Rattle.san_reward.specs.Running.{IsOf, Running, with_impulse, with_impulses}
use Rattle.san_reward.proofs.Counting.{sums_like}

-- what impulses add to a reward's sum at a time
abbrev adding : List Span → ℕ → List Impulse → ℕ → Rated → Rated
adding spans time xs r sum = plus sum (counted_at (slice_index_or spans r no_span) time (impulses_sum r xs))

within_plus : (b : Bool) (x y : Rated) → plus (if b then x else zero_sum) (if b then y else zero_sum) ≡ (if b then plus x y else zero_sum)
within_plus true x y = refl
within_plus false x y = refl

nothing_within : (b : Bool) → (if b then zero_sum else zero_sum) ≡ zero_sum
nothing_within true = refl
nothing_within false = refl

-- the first of them counted, and then the others
module _ (spans : List Span) (time : ℕ) (x : Impulse) (xs : List Impulse) (sums : List Rated) where
  abbrev after_first : List Rated
  after_first = slice_set sums x.reward (plus (slice_index_or sums x.reward zero_sum) (counted_at (slice_index_or spans x.reward no_span) time x.rated))

  at_reward : (r : ℕ) → r < length sums → ((nat_eq r x.reward ≡ true) × (r ≡ x.reward)) ⊎ ((nat_eq r x.reward ≡ false) × (r ≢ x.reward))
      → adding spans time xs r (slice_index_or after_first r zero_sum) ≡ adding spans time (x ∷ xs) r (slice_index_or sums r zero_sum)
  at_reward r h (inl e) =
      let b = is_within (slice_index_or spans r no_span) time in
      let rest = impulses_sum r xs in
      let sum = slice_index_or sums r zero_sum in
      let same : slice_index_or after_first r zero_sum ≡ plus sum (if b then x.rated else zero_sum) =
      ap (λ q. slice_index_or (slice_set sums q (plus (slice_index_or sums q zero_sum) (counted_at (slice_index_or spans q no_span) time x.rated))) r zero_sum) (sym e.1) ∙ get_or-set_same sums r (plus sum (if b then x.rated else zero_sum)) zero_sum h in
      ap (adding spans time xs r) same
      ∙ (plus_assoc sum (if b then x.rated else zero_sum) (if b then rest else zero_sum)
      ∙ (ap (plus sum) (within_plus b x.rated rest)
      ∙ ap (λ c. plus sum (if b then plus (if c then x.rated else zero_sum) rest else zero_sum)) (sym (eq-eqb x.reward r (sym e.1)))))
  at_reward r h (inr d) =
      let b = is_within (slice_index_or spans r no_span) time in
      let rest = impulses_sum r xs in
      let sum = slice_index_or sums r zero_sum in
      ap (adding spans time xs r) (get_or-set_other sums x.reward r (plus (slice_index_or sums x.reward zero_sum) (counted_at (slice_index_or spans x.reward no_span) time x.rated)) zero_sum d.1)
      ∙ (ap (λ w. plus sum (if b then w else zero_sum)) (sym (plus_first rest))
      ∙ ap (λ c. plus sum (if b then plus (if c then x.rated else zero_sum) rest else zero_sum)) (sym (ne_eqb x.reward r (λ s. d.1 (sym s)))))

  one_at_once : sums_from (adding spans time xs) 0 after_first ≡ sums_from (adding spans time (x ∷ xs)) 0 sums
  one_at_once =
      let f = adding spans time xs in
      let g = adding spans time (x ∷ xs) in
      let long = length-set sums x.reward (plus (slice_index_or sums x.reward zero_sum) (counted_at (slice_index_or spans x.reward no_span) time x.rated)) in
      let many = sums_long f 0 after_first in
      ext_get_or zero_sum (sums_from f 0 after_first) (sums_from g 0 sums) (many ∙ (long ∙ sym (sums_long g 0 sums))) (λ r l.
      sums_at f 0 r r after_first (omega (arith, l, many)) (omega arith) ∙ (at_reward r (omega (arith, l, many, long)) (eqb_tells r x.reward) ∙ sym (sums_at g 0 r r sums (omega (arith, l, many, long)) (omega arith))))

-- no impulse adds nothing
none_at_once : (spans : List Span) (time a : ℕ) (sums : List Rated) → sums ≡ sums_from (adding spans time []) a sums
none_at_once spans time a [] = refl
none_at_once spans time a (s ∷ ss) = ap (λ x. x ∷ ss) (sym (ap (plus s) (nothing_within (is_within (slice_index_or spans a no_span) time)) ∙ plus_last s)) ∙ ap (λ xs. adding spans time [] a s ∷ xs) (none_at_once spans time (suc a) ss)

-- a tally after them
abbrev at_once : Running → List Impulse → Running
at_once t xs = record t { tally = record { rates = t.tally.rates; sums = sums_from (adding t.spans t.time xs) 0 t.tally.sums; impulses = t.tally.impulses + length xs } }

pub impulses_at_once : (t : Running) (xs : List Impulse) → with_impulses t xs ≡ at_once t xs
impulses_at_once t [] = ap (λ ss. record t { tally = record { rates = t.tally.rates; sums = ss; impulses = t.tally.impulses } }) (none_at_once t.spans t.time 0 t.tally.sums) ∙ ap (λ n. record t { tally = record { rates = t.tally.rates; sums = sums_from (adding t.spans t.time []) 0 t.tally.sums; impulses = n } }) (let z : t.tally.impulses ≡ t.tally.impulses + 0 = omega arith in z)
impulses_at_once t (x ∷ xs) =
    impulses_at_once (with_impulse t x.reward x.rated) xs
    ∙ (ap (λ ss. record t { tally = record { rates = t.tally.rates; sums = ss; impulses = t.tally.impulses + 1 + length xs } }) (one_at_once t.spans t.time x xs t.tally.sums)
    ∙ ap (λ n. record t { tally = record { rates = t.tally.rates; sums = sums_from (adding t.spans t.time (x ∷ xs)) 0 t.tally.sums; impulses = n } }) (let z : t.tally.impulses + 1 + length xs ≡ t.tally.impulses + suc (length xs) = omega arith in z))

-- and those of an event at the present time are the law's
pub event_same : (net : Net) (t : Running) → IsOf net t → (e : Event) → e.time ≡ t.time → tally_after net t.tally t.time t.time (e ∷ []) ≡ (with_impulses t e.impulses).tally
event_same net t is e at =
    ap (λ ss. record { rates = t.tally.rates; sums = ss; impulses = t.tally.impulses + (length e.impulses + 0) }) (sums_like (λ r sum. plus (going_on net t.tally t.time (t.time - t.time) r sum) (events_sum net r (e ∷ []))) (adding t.spans t.time e.impulses) 0 t.tally.sums each)
    ∙ (ap (λ n. record { rates = t.tally.rates; sums = sums_from (adding t.spans t.time e.impulses) 0 t.tally.sums; impulses = n }) (let z : t.tally.impulses + (length e.impulses + 0) ≡ t.tally.impulses + length e.impulses = omega arith in z)
    ∙ ap (λ (u : Running). u.tally) (sym (impulses_at_once t e.impulses)))
  where
    each : (r : ℕ) (sum : Rated) → r < 0 + length t.tally.sums → plus (going_on net t.tally t.time (t.time - t.time) r sum) (events_sum net r (e ∷ [])) ≡ adding t.spans t.time e.impulses r sum
    each r sum l =
        let z : t.time - t.time ≡ 0 = omega arith in
        ap (λ n. plus (plus sum (sum_ticks (λ u. tick_sum net r u t.tally.rates) t.time n)) (events_sum net r (e ∷ []))) z
        ∙ (ap (λ x. plus x (events_sum net r (e ∷ []))) (plus_last sum)
        ∙ (ap (plus sum) (plus_last (if is_within (span_of net r) e.time then impulses_sum r e.impulses else zero_sum))
        ∙ (ap (λ u. plus sum (if is_within (span_of net r) u then impulses_sum r e.impulses else zero_sum)) at
        ∙ ap (λ ss. adding ss t.time e.impulses r sum) is.spans)))
