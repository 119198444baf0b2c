-- A tally that has come to a time counts the events of that time one by one.
use Rattle.std.proofs.Common.{ℕ, suc, ◌+◌, ◌-◌, ◌≡◌, ◌∙◌, ap, sym, refl, List, [], ◌∷◌, length, arith}
use Rattle.san_law.specs.Net.{Net, Rated}
use Rattle.san_law.specs.Reward.{event_sum, events_sum, plus, sum_ticks, tick_sum, zero_sum}
use Rattle.san_law.specs.Step.{Event}
use Rattle.san_law.specs.Tally.{Tally, going_on, impulses_in, sums_from, tally_after}
use Rattle.san_law.proofs.Tallies.{plus_assoc, plus_last}
use Rattle.san_law.specs.Counting.{CountsOneByOne, counted}

abbrev adds : Net → List Event → ℕ → Rated → Rated
adds net es r s = plus s (events_sum net r es)

abbrev summed : Tally → List Rated → ℕ → Tally
summed t sums n = record { rates = t.rates; sums = sums; impulses = n }

like : (f g : ℕ → Rated → Rated) (a : ℕ) (ss : List Rated) → ((r : ℕ) (s : Rated) → f r s ≡ g r s) → sums_from f a ss ≡ sums_from g a ss
like f g a [] h = refl
like f g a (s ∷ ss) h = ap (λ x. x ∷ sums_from f (suc a) ss) (h a s) ∙ ap (λ xs. g a s ∷ xs) (like f g (suc a) ss h)

then : (f g : ℕ → Rated → Rated) (a : ℕ) (ss : List Rated) → sums_from f a (sums_from g a ss) ≡ sums_from (λ r s. f r (g r s)) a ss
then f g a [] = refl
then f g a (s ∷ ss) = ap (λ xs. f a (g a s) ∷ xs) (then f g (suc a) ss)

same : (a : ℕ) (ss : List Rated) → sums_from (λ r s. plus s zero_sum) a ss ≡ ss
same a [] = refl
same a (s ∷ ss) = ap (λ x. x ∷ sums_from (λ r s. plus s zero_sum) (suc a) ss) (plus_last s) ∙ ap (λ xs. s ∷ xs) (same (suc a) ss)

module _ (net : Net) (time : ℕ) where
  stays : (t : Tally) (r : ℕ) (s : Rated) → going_on net t time (time - time) r s ≡ s
  stays t r s = ap (λ n. plus s (sum_ticks (λ u. tick_sum net r u t.rates) time n)) none ∙ plus_last s
    where
      none : time - time ≡ 0
      none = omega arith

  one : (t : Tally) (e : Event) (es : List Event) (r : ℕ) (s : Rated) → plus (plus (going_on net t time (time - time) r s) (plus (event_sum net r e) zero_sum)) (events_sum net r es) ≡ plus s (plus (event_sum net r e) (events_sum net r es))
  one t e es r s =
      ap (λ x. plus (plus x (plus (event_sum net r e) zero_sum)) (events_sum net r es)) (stays t r s)
      ∙ (ap (λ x. plus (plus s x) (events_sum net r es)) (plus_last (event_sum net r e))
      ∙ plus_assoc s (event_sum net r e) (events_sum net r es))

  counts : (t : Tally) (es : List Event) → counted net time t es ≡ summed t (sums_from (adds net es) 0 t.sums) (t.impulses + impulses_in es)
  counts t [] = ap (λ ss. summed t ss t.impulses) (sym (same 0 t.sums)) ∙ ap (summed t (sums_from (adds net []) 0 t.sums)) (none t.impulses)
    where
      none : (n : ℕ) → n ≡ n + 0
      none n = omega arith
  counts t (e ∷ es) =
      let admitted = tally_after net t time time (e ∷ []) in
      counts admitted es
      ∙ (ap (λ ss. summed t ss (admitted.impulses + impulses_in es)) (then (adds net es) (λ r s. plus (going_on net t time (time - time) r s) (plus (event_sum net r e) zero_sum)) 0 t.sums ∙ like (λ r s. plus (plus (going_on net t time (time - time) r s) (plus (event_sum net r e) zero_sum)) (events_sum net r es)) (adds net (e ∷ es)) 0 t.sums (one t e es))
      ∙ ap (summed t (sums_from (adds net (e ∷ es)) 0 t.sums)) (more t.impulses (length e.impulses) (impulses_in es)))
    where
      more : (a b c : ℕ) → a + (b + 0) + c ≡ a + (b + c)
      more a b c = omega arith

  apart : (t : Tally) (from : ℕ) (es : List Event) (r : ℕ) (s : Rated) → plus (plus (going_on net t from (time - from) r s) zero_sum) (events_sum net r es) ≡ plus (going_on net t from (time - from) r s) (events_sum net r es)
  apart t from es r s = ap (λ x. plus x (events_sum net r es)) (plus_last (going_on net t from (time - from) r s))

  whole : (t : Tally) (from : ℕ) (es : List Event) → counted net time (tally_after net t from time []) es ≡ tally_after net t from time es
  whole t from es =
      let come = tally_after net t from time [] in
      counts come es
      ∙ (ap (λ ss. summed t ss (come.impulses + impulses_in es)) (then (adds net es) (λ r s. plus (going_on net t from (time - from) r s) zero_sum) 0 t.sums ∙ like (λ r s. plus (plus (going_on net t from (time - from) r s) zero_sum) (events_sum net r es)) (λ r s. plus (going_on net t from (time - from) r s) (events_sum net r es)) 0 t.sums (apart t from es))
      ∙ ap (summed t (sums_from (λ r s. plus (going_on net t from (time - from) r s) (events_sum net r es)) 0 t.sums)) (none t.impulses (impulses_in es)))
    where
      none : (a b : ℕ) → a + 0 + b ≡ a + b
      none a b = omega arith

pub counts_one_by_one : (net : Net) → CountsOneByOne net
counts_one_by_one net t from to es = sym (whole net to t from es)
