-- What some runs come to, and further runs.
use Rattle.std.proofs.Common.{ℕ, zero, suc, ◌+◌, ◌≤◌, ◌<◌, ◌≡◌, ◌∙◌, ap, sym, refl, arith, List, [], ◌∷◌, ◌++◌, length, All, Option, Some, None, Bool, true, false, cond, slice_index_or, replicate, count_by, length-append}
use Rattle.std.specs.Prelude.{ℤ, unsigned_abs}
use mir.Val.{bool_byte}
use Rattle.std.proofs.lemmas.List.Sums.{sum_by-append}
use Rattle.san_base.specs.declared.limits.TheConstants.{MAX_WORTH}
use Rattle.san_summary.specs.Batches.{AreSmall, CanAdd, CanJoin, IsSmallNumber, Outcome, Sums, numbers_at, summaries, sums_of, with_number}
use Rattle.san_summary.specs.Summaries.{summary_of}
use Rattle.san_summary.specs.declared.batch.TheConstants.{MAX_RUNS}
use Rattle.san_summary.specs.declared.summary.Summary.{Summary}
use Rattle.san_summary.specs.inner.Joined.{CanCount, CanJoinOne, IsSmall, counted, joined, none}
use Rattle.san_summary.specs.inner.Places.{CanCountAll, CanJoinAll, all_counted, all_joined, at, by_place, sums_joined, with_run}
use Rattle.san_summary.proofs.PlaceLemmas.{places_like}
use Rattle.san_summary.proofs.SummaryLemmas.{joined_none, summary_append, summary_one, summary_small}

numbers_by : (o : Option ℤ) (xs ys : List ℤ) → with_number o (xs ++ ys) ≡ with_number o xs ++ ys
numbers_by None xs ys = refl
numbers_by (Some x) xs ys = refl

numbers_append : (r : ℕ) (os ps : List Outcome) → numbers_at r (os ++ ps) ≡ numbers_at r os ++ numbers_at r ps
numbers_append r [] ps = refl
numbers_append r (o ∷ os) ps = ap (with_number (slice_index_or o.numbers r None)) (numbers_append r os ps) ∙ numbers_by (slice_index_or o.numbers r None) (numbers_at r os) (numbers_at r ps)

summaries_long : (r many : ℕ) (os : List Outcome) → length (summaries r many os) ≡ many
summaries_long r zero os = refl
summaries_long r (suc many) os = ap suc (summaries_long (suc r) many os)

pub sums_long : (many : ℕ) (os : List Outcome) → length (sums_of many os).rewards ≡ many
sums_long many os = summaries_long 0 many os

summaries_at : (a many m i : ℕ) (os : List Outcome) → i < many → m ≡ a + i → at (summaries a many os) i ≡ summary_of (numbers_at m os)
summaries_at a zero m i os h e = absurd (omega (arith, h))
summaries_at a (suc many) m zero os h e = let k : a ≡ m = omega (arith, e) in ap (λ r. summary_of (numbers_at r os)) k
summaries_at a (suc many) m (suc i) os h e = summaries_at (suc a) many m i os (omega (arith, h)) (omega (arith, e))

-- the sums of runs, and of those after them
summaries_by : (a many : ℕ) (os ps : List Outcome) → summaries a many (os ++ ps) ≡ by_place (λ r s. joined s (summary_of (numbers_at r ps))) a (summaries a many os)
summaries_by a zero os ps = refl
summaries_by a (suc many) os ps =
    ap (λ s. s ∷ summaries (suc a) many (os ++ ps)) (ap summary_of (numbers_append a os ps) ∙ summary_append (numbers_at a os) (numbers_at a ps))
    ∙ ap (λ ss. joined (summary_of (numbers_at a os)) (summary_of (numbers_at a ps)) ∷ ss) (summaries_by (suc a) many os ps)

summaries_append : (many : ℕ) (os ps : List Outcome) → all_joined (summaries 0 many os) (summaries 0 many ps) ≡ summaries 0 many (os ++ ps)
summaries_append many os ps =
    places_like (λ r s. joined s (at (summaries 0 many ps) r)) (λ r s. joined s (summary_of (numbers_at r ps))) 0 (summaries 0 many os)
    (λ r s l. let e = summaries_long 0 many os in ap (joined s) (summaries_at 0 many r r ps (omega (arith, l, e)) (omega arith)))
    ∙ sym (summaries_by 0 many os ps)

stopped_append : (os ps : List Outcome) → count_by (λ (o : Outcome). o.stopped) (os ++ ps) ≡ count_by (λ (o : Outcome). o.stopped) os + count_by (λ (o : Outcome). o.stopped) ps
stopped_append os ps = sum_by-append (λ (o : Outcome). cond o.stopped 1 0) os ps

abbrev sums : ℕ → ℕ → List Summary → Sums
sums runs stopped rewards = record { runs = runs; stopped = stopped; rewards = rewards }

sums_same : (a b c d : ℕ) (ss ts : List Summary) → a ≡ b → c ≡ d → ss ≡ ts → sums a c ss ≡ sums b d ts
sums_same a b c d ss ts e f g = λ k. sums (e k) (f k) (g k)

sums_append : (many : ℕ) (os ps : List Outcome) → sums_joined (sums_of many os) (sums_of many ps) ≡ sums_of many (os ++ ps)
sums_append many os ps = sums_same _ _ _ _ _ _ (sym (length-append os ps)) (sym (stopped_append os ps)) (summaries_append many os ps)

joined_sums : (old other new : Sums) → new ≡ sums_joined old other → (many : ℕ) (os ps : List Outcome) → old ≡ sums_of many os → other ≡ sums_of many ps → new ≡ sums_of many (os ++ ps)
joined_sums old other new e many os ps is are = e ∙ (λ k. sums_joined (is k) (are k)) ∙ sums_append many os ps

-- by the parts of what was there and of what is
pub joined_parts : (old other : Sums) (runs more stopped halted : ℕ) (ss ts back new : List Summary) → sums runs stopped ss ≡ old → sums more halted ts ≡ other → back ≡ ts → new ≡ all_joined ss back
    → (many : ℕ) (os ps : List Outcome) → old ≡ sums_of many os → other ≡ sums_of many ps → sums (runs + more) (stopped + halted) new ≡ sums_of many (os ++ ps)
joined_parts old other runs more stopped halted ss ts back new is are b e many os ps i j =
    joined_sums old other (sums (runs + more) (stopped + halted) new) (ap (sums (runs + more) (stopped + halted)) (e ∙ ap (all_joined ss) b) ∙ (λ k. sums_joined (is k) (are k))) many os ps i j

-- a run more
pub byte_is : (b : Bool) → bool_byte b ≡ cond b 1 0
byte_is true = refl
byte_is false = refl

counted_by : (o : Option ℤ) (s : Summary) → counted s o ≡ joined s (summary_of (with_number o []))
counted_by None s = sym (joined_none s)
counted_by (Some x) s = ap (joined s) (sym (summary_one x))

counted_like : (many : ℕ) (os : List Outcome) (o : Outcome) → all_counted (summaries 0 many os) o.numbers ≡ summaries 0 many (os ++ o ∷ [])
counted_like many os o =
    places_like (λ r s. counted s (slice_index_or o.numbers r None)) (λ r s. joined s (summary_of (numbers_at r (o ∷ [])))) 0 (summaries 0 many os) (λ r s l. counted_by (slice_index_or o.numbers r None) s)
    ∙ sym (summaries_by 0 many os (o ∷ []))

run_more : (many : ℕ) (os : List Outcome) (o : Outcome) → with_run (sums_of many os) o.stopped o.numbers ≡ sums_of many (os ++ o ∷ [])
run_more many os o =
    let last : 0 + cond o.stopped 1 0 ≡ cond o.stopped 1 0 = omega arith in
    sums_same _ _ _ _ _ _ (sym (length-append os (o ∷ []))) (ap (λ k. count_by (λ (x : Outcome). x.stopped) os + k) (sym last) ∙ sym (stopped_append os (o ∷ []))) (counted_like many os o)

added_run : (old new : Sums) (stopped : Bool) (numbers : List (Option ℤ)) → new ≡ with_run old stopped numbers → (many : ℕ) (os : List Outcome) → old ≡ sums_of many os
    → new ≡ sums_of many (os ++ record { stopped = stopped; numbers = numbers } ∷ [])
added_run old new stopped numbers e many os is = e ∙ ap (λ (s : Sums). with_run s stopped numbers) is ∙ run_more many os (record { stopped = stopped; numbers = numbers })

pub added_parts : (old : Sums) (runs halted more : ℕ) (ss new : List Summary) (stopped : Bool) (numbers : List (Option ℤ)) → sums runs halted ss ≡ old → more ≡ cond stopped 1 0 → new ≡ all_counted ss numbers
    → (many : ℕ) (os : List Outcome) → old ≡ sums_of many os → sums (runs + 1) (halted + more) new ≡ sums_of many (os ++ record { stopped = stopped; numbers = numbers } ∷ [])
added_parts old runs halted more ss new stopped numbers is m e many os i =
    added_run old (sums (runs + 1) (halted + more) new) stopped numbers ((λ k. sums (runs + 1) (halted + m k) (e k)) ∙ ap (λ (s : Sums). with_run s stopped numbers) is) many os i

no_summaries : (r many : ℕ) → replicate many none ≡ summaries r many []
no_summaries r zero = refl
no_summaries r (suc many) = ap (λ ss. none ∷ ss) (no_summaries (suc r) many)

pub no_sums : (many k : ℕ) (ss : List Summary) → ss ≡ replicate k none → k ≡ many → sums 0 0 ss ≡ sums_of many []
no_sums many k ss is all = ap (sums 0 0) (is ∙ ap (λ (n : ℕ). replicate n none) all ∙ no_summaries 0 many)

-- the sums of small runs are small
few_by : (x : Option ℤ) (xs : List ℤ) (m : ℕ) → length xs ≤ m → length (with_number x xs) ≤ suc m
few_by None xs m h = omega (arith, h)
few_by (Some x) xs m h = omega (arith, h)

numbers_few : (r : ℕ) (os : List Outcome) → length (numbers_at r os) ≤ length os
numbers_few r [] = omega arith
numbers_few r (o ∷ os) = few_by (slice_index_or o.numbers r None) (numbers_at r os) (length os) (numbers_few r os)

abbrev Small : ℤ → Type 0
Small x = unsigned_abs x ≤ MAX_WORTH

small_by : (x : Option ℤ) (xs : List ℤ) → IsSmallNumber x → All Small xs → All Small (with_number x xs)
small_by None xs k h = h
small_by (Some x) xs k h = each
  where
    each : (i : ℕ) (d : ℤ) → i < length (x ∷ xs) → Small (slice_index_or (x ∷ xs) i d)
    each zero d l = k
    each (suc i) d l = h i d (omega (arith, l))

numbers_small : (r : ℕ) (os : List Outcome) → AreSmall os → All Small (numbers_at r os)
numbers_small r [] h = λ k d l. absurd (omega (arith, l))
numbers_small r (o ∷ os) h = small_by (slice_index_or o.numbers r None) (numbers_at r os) (h.0 r) (numbers_small r os h.1)

of_runs : (r : ℕ) (os : List Outcome) → AreSmall os → length os ≤ MAX_RUNS → IsSmall (summary_of (numbers_at r os))
of_runs r os h few = let l = numbers_few r os in summary_small (numbers_at r os) (numbers_small r os h) (omega (arith, l, few))

rewards_join : (many : ℕ) (os ps : List Outcome) → AreSmall os → AreSmall ps → length os + length ps ≤ MAX_RUNS → CanJoinAll (sums_of many os).rewards (sums_of many ps).rewards
rewards_join many os ps h k few = (summaries_long 0 many ps ∙ sym (summaries_long 0 many os), each)
  where
    each : (r : ℕ) → r < length (summaries 0 many os) → CanJoinOne (at (summaries 0 many os) r) (at (summaries 0 many ps) r)
    each r l =
        let e = summaries_long 0 many os in
        let here : r < many = omega (arith, l, e) in
        let a = numbers_few r os in
        let b = numbers_few r ps in
        let both : CanJoinOne (summary_of (numbers_at r os)) (summary_of (numbers_at r ps)) = record { first = of_runs r os h (omega (arith, few)); second = of_runs r ps k (omega (arith, few)); few = omega (arith, a, b, few) } in
        rw (summaries_at 0 many r r os here (omega arith), summaries_at 0 many r r ps here (omega arith)) both

rewards_count : (many : ℕ) (os : List Outcome) (numbers : List (Option ℤ)) → AreSmall os → ((r : ℕ) → IsSmallNumber (slice_index_or numbers r None)) → length os < MAX_RUNS → length numbers ≡ many
    → CanCountAll (sums_of many os).rewards numbers
rewards_count many os numbers h k few sized = (sized ∙ sym (summaries_long 0 many os), each)
  where
    one_more : (s : Summary) (x : Option ℤ) → IsSmall s → s.count < MAX_RUNS → IsSmallNumber x → CanCount s x
    one_more s None a b c = tt
    one_more s (Some x) a b c = record { first = a; small = c; few = b }

    each : (r : ℕ) → r < length (summaries 0 many os) → CanCount (at (summaries 0 many os) r) (slice_index_or numbers r None)
    each r l =
        let e = summaries_long 0 many os in
        let a = numbers_few r os in
        rw (summaries_at 0 many r r os (omega (arith, l, e)) (omega arith)) (one_more (summary_of (numbers_at r os)) (slice_index_or numbers r None) (of_runs r os h (omega (arith, few))) (omega (arith, a, few)) (k r))

pub can_join_all : (s t : Sums) → CanJoin s t → CanJoinAll s.rewards t.rewards
can_join_all s t h = rw (h.first_is, h.second_is) (rewards_join h.many h.first h.second h.first_small h.second_small h.few)

pub can_count_all : (s : Sums) (numbers : List (Option ℤ)) → CanAdd s numbers → CanCountAll s.rewards numbers
can_count_all s numbers h = rw h.is (rewards_count h.many h.outcomes numbers h.small h.numbers_small h.few h.sized)
