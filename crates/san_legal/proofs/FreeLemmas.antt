-- Draws of each step are put together into the draws of a run.
use Rattle.std.proofs.Common.{ℕ, zero, suc, ◌+◌, ◌*◌, ◌^◌, ◌≤◌, ◌<◌, ◌≡◌, ◌∙◌, ap, sym, subst, refl, arith, List, [], ◌∷◌, length, Bool, true, false, nat_lt, cond}
use Rattle.std.specs.Prelude.{slice_index}
use Rattle.std.proofs.lemmas.Bool.{ltb-true, ltb-false}
use Rattle.san_law.specs.Activity.{case_stream, delay_stream}
use Rattle.san_law.specs.Net.{Row}
use Rattle.san_law.specs.Network.{Limits, Network, net_of, part_at}
use Rattle.san_law.specs.State.{State, row_of}
use Rattle.san_law.specs.Step.{Event, Happened, Stepped, step}
use Rattle.san_law.specs.Trajectory.{Runs}
use Rattle.san_legal.specs.Draws.{AgreeNext, AgreeTaken, AreDraws}
use Rattle.san_legal.specs.Locality.{IsSized}
use Rattle.san_legal.specs.FreeRuns.{HasOwnStreams, FreeRuns, FreeRunsAreOfDraws, IsFreeStep, IsOfDraws}
use Rattle.san_legal.proofs.StepLemmas.{more_sized, run_looks_at_taken, run_more, step_looks_at_taken, step_more}
use Rattle.san_legal.proofs.NextDrawLemmas.{step_looks_at_next}

-- ---- by stream

-- an even stream has the first's value for its half, an odd one the second's
abbrev pub by_stream : {A : Type 0} → (ℕ → A) → (ℕ → A) → ℕ → A
by_stream f g zero = f 0
by_stream f g (suc zero) = g 0
by_stream f g (suc (suc n)) = by_stream (λ a. f (suc a)) (λ a. g (suc a)) n

pub even_stream : {A : Type 0} (f g : ℕ → A) (a : ℕ) → by_stream f g (2 * a) ≡ f a
even_stream f g zero = refl
even_stream f g (suc a) = let two : 2 * suc a ≡ suc (suc (2 * a)) = omega arith in ap (by_stream f g) two ∙ even_stream (λ x. f (suc x)) (λ x. g (suc x)) a

pub odd_stream : {A : Type 0} (f g : ℕ → A) (a : ℕ) → by_stream f g (2 * a + 1) ≡ g a
odd_stream f g zero = refl
odd_stream f g (suc a) = let two : 2 * suc a + 1 ≡ suc (suc (2 * a + 1)) = omega arith in ap (by_stream f g) two ∙ odd_stream (λ x. f (suc x)) (λ x. g (suc x)) a

-- a number that is counted is there
counted_there : (cs : List ℕ) (k n : ℕ) → n < slice_index cs k → k < length cs
counted_there [] k n h = absurd (omega (arith, h))
counted_there (c ∷ cs) zero n h = omega arith
counted_there (c ∷ cs) (suc k) n h = let more = counted_there cs k n h in omega (arith, more)

module _ (network : Network) (apart : HasOwnStreams network) (s : State) where
  -- how many draws of a stream were taken
  abbrev count_of : ℕ → ℕ
  count_of stream = by_stream (λ a. slice_index (row_of s (apart.leaf_of a)).delays (apart.act_of a)) (λ a. slice_index (row_of s (apart.leaf_of a)).cases (apart.act_of a)) stream

  module _ (j k : ℕ) (there : k < length (part_at network j).activities) where
    delay_count : count_of (delay_stream (part_at network j) k) ≡ slice_index (row_of s j).delays k
    delay_count =
        even_stream (λ a. slice_index (row_of s (apart.leaf_of a)).delays (apart.act_of a)) (λ a. slice_index (row_of s (apart.leaf_of a)).cases (apart.act_of a)) ((part_at network j).first + k)
        ∙ (ap (λ (i : ℕ). slice_index (row_of s i).delays (apart.act_of ((part_at network j).first + k))) (apart.leaf j k there)
        ∙ ap (λ (i : ℕ). slice_index (row_of s j).delays i) (apart.act j k there))

    case_count : count_of (case_stream (part_at network j) k) ≡ slice_index (row_of s j).cases k
    case_count =
        odd_stream (λ a. slice_index (row_of s (apart.leaf_of a)).delays (apart.act_of a)) (λ a. slice_index (row_of s (apart.leaf_of a)).cases (apart.act_of a)) ((part_at network j).first + k)
        ∙ (ap (λ (i : ℕ). slice_index (row_of s i).cases (apart.act_of ((part_at network j).first + k))) (apart.leaf j k there)
        ∙ ap (λ (i : ℕ). slice_index (row_of s j).cases i) (apart.act j k there))

  module _ (draw other : ℕ → ℕ → ℕ) where
    -- the first below the counts, the second from there on
    abbrev joined : ℕ → ℕ → ℕ
    joined stream n = cond (nat_lt n (count_of stream)) (draw stream n) (other stream n)

    joined_words : AreDraws draw → AreDraws other → AreDraws joined
    joined_words a b stream n = by_test (nat_lt n (count_of stream))
      where
        by_test : (t : Bool) → cond t (draw stream n) (other stream n) < 2 ^ 64
        by_test true = a stream n
        by_test false = b stream n

    joined_before : (stream n count : ℕ) → count_of stream ≡ count → n < count → draw stream n ≡ joined stream n
    joined_before stream n count is h = by_test (nat_lt n (count_of stream)) refl
      where
        by_test : (t : Bool) → nat_lt n (count_of stream) ≡ t → draw stream n ≡ cond t (draw stream n) (other stream n)
        by_test true e = refl
        by_test false e = let l = ltb-false n (count_of stream) e in absurd (omega (arith, l, is, h))

    joined_after : (stream n count : ℕ) → count_of stream ≡ count → count ≤ n → other stream n ≡ joined stream n
    joined_after stream n count is h = by_test (nat_lt n (count_of stream)) refl
      where
        by_test : (t : Bool) → nat_lt n (count_of stream) ≡ t → other stream n ≡ cond t (draw stream n) (other stream n)
        by_test true e = let l = ltb-true n (count_of stream) e in absurd (omega (arith, l, is, h))
        by_test false e = refl

    before_agrees : (old : State) → IsSized network s → AgreeTaken network draw joined old s
    before_agrees old sized j = record {
      delays = λ k n a b. (let there = counted_there (row_of s j).delays k n b in joined_before (delay_stream (part_at network j) k) n (slice_index (row_of s j).delays k) (delay_count j k (omega (arith, there, (sized j).delays))) b);
      cases = λ k n a b. (let there = counted_there (row_of s j).cases k n b in joined_before (case_stream (part_at network j) k) n (slice_index (row_of s j).cases k) (case_count j k (omega (arith, there, (sized j).cases))) b);
    }

    after_agrees : (new : State) → IsSized network new → AgreeTaken network other joined s new
    after_agrees new sized j = record {
      delays = λ k n a b. (let there = counted_there (row_of new j).delays k n b in joined_after (delay_stream (part_at network j) k) n (slice_index (row_of s j).delays k) (delay_count j k (omega (arith, there, (sized j).delays))) a);
      cases = λ k n a b. (let there = counted_there (row_of new j).cases k n b in joined_after (case_stream (part_at network j) k) n (slice_index (row_of s j).cases k) (case_count j k (omega (arith, there, (sized j).cases))) a);
    }

    next_agrees : (j : ℕ) (r : Row) → ((k : ℕ) → slice_index (row_of s j).delays k ≤ slice_index r.delays k) → ((k : ℕ) → slice_index (row_of s j).cases k ≤ slice_index r.cases k) → AgreeNext other joined (part_at network j) r
    next_agrees j r d c = record {
      delays = λ k there. joined_after (delay_stream (part_at network j) k) (slice_index r.delays k) (slice_index (row_of s j).delays k) (delay_count j k there) (d k);
      cases = λ k there. joined_after (case_stream (part_at network j) k) (slice_index r.cases k) (slice_index (row_of s j).cases k) (case_count j k there) (c k);
    }

-- ---- runs

module _ (network : Network) (apart : HasOwnStreams network) (limits : Limits) where
  step_before : (s t : State) (es : List Event) (x : Stepped × State) (e : Event) (u : State) → IsSized network s → IsFreeStep network limits s (Happened e, u) → IsOfDraws network limits u es t x → IsOfDraws network limits s (e ∷ es) t x
  step_before s t es x e u sized first rest =
      let one = net_of first.draw network limits in
      let now : (step one s).1 ≡ u = ap (λ (y : Stepped × State). y.1) first.is in
      let happens : (step one s).0 ≡ Happened e = ap (λ (y : Stepped × State). y.0) first.is in
      let more = step_more network limits first.draw s e sized happens in
      let fit : IsSized network u = subst (IsSized network) now (more_sized network s (step one s).1 sized more) in
      let on = run_more network limits rest.draw u t es fit rest.runs in
      let last : IsSized network t = more_sized network u t fit on in
      let draw : ℕ → ℕ → ℕ = joined network apart u first.draw rest.draw in
      let agree : AgreeTaken network first.draw draw s (step one s).1 = subst (AgreeTaken network first.draw draw s) (sym now) (before_agrees network apart u first.draw rest.draw s fit) in
      let same : step (net_of draw network limits) s ≡ (Happened e, u) = step_looks_at_taken network limits first.draw draw s e sized happens agree ∙ first.is in
      let runs : Runs (net_of draw network limits) u es t = run_looks_at_taken network limits rest.draw draw u t es fit rest.runs (after_agrees network apart u first.draw rest.draw t last) in
      record {
        draw = draw;
        words = joined_words network apart u first.draw rest.draw first.words rest.words;
        runs = subst (λ (y : Stepped × State). (y.0 ≡ Happened e) × Runs (net_of draw network limits) y.1 es t) (sym same) (refl, runs);
        next = step_looks_at_next network limits rest.draw draw t (λ j. next_agrees network apart u first.draw rest.draw j (row_of t j) (on j).more_delays (on j).more_cases) ∙ rest.next;
      }

  of_draws : (s t : State) (es : List Event) (x : Stepped × State) → IsSized network s → FreeRuns network limits s es t → IsFreeStep network limits t x → IsOfDraws network limits s es t x
  of_draws s t [] x sized runs last = record { draw = last.draw; words = last.words; runs = runs; next = last.is }
  of_draws s t (e ∷ es) x sized runs last =
      let first = runs.1 in
      let one = net_of first.draw network limits in
      let now : (step one s).1 ≡ runs.0 = ap (λ (y : Stepped × State). y.1) first.is in
      let more = step_more network limits first.draw s e sized (ap (λ (y : Stepped × State). y.0) first.is) in
      let fit : IsSized network runs.0 = subst (IsSized network) now (more_sized network s (step one s).1 sized more) in
      step_before s t es x e runs.0 sized first (of_draws runs.0 t es x fit runs.2 last)

  pub free_by : (draw : ℕ → ℕ → ℕ) → AreDraws draw → (s t : State) (es : List Event) → Runs (net_of draw network limits) s es t → FreeRuns network limits s es t
  free_by draw words s t [] runs = runs
  free_by draw words s t (e ∷ es) runs =
      let y = step (net_of draw network limits) s in
      (y.1, record { draw = draw; words = words; is = ap (λ (h : Stepped). (let z : Stepped × State = (h, y.1) in z)) runs.0 }, free_by draw words y.1 t es runs.1)

pub free_runs_are_of_draws : (network : Network) → HasOwnStreams network → FreeRunsAreOfDraws network
free_runs_are_of_draws network apart limits s t es x sized = (
  (λ free. of_draws network apart limits s t es x sized free.0 free.1),
  (λ is. (free_by network apart limits is.draw is.words s t es is.runs, record { draw = is.draw; words = is.words; is = is.next })),
)
