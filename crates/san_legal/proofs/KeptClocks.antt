-- The renewal of a leaf's timers: kept, and with draws.
use Rattle.std.proofs.Common.{ℕ, zero, suc, ◌+◌, ◌^◌, ◌≤◌, ◌<◌, ◌≡◌, ◌∙◌, ap, sym, subst, refl, arith, List, [], ◌∷◌, length, map, Option, None, Result, Ok, Err, slice_index_or, nat_lt}
use Rattle.std.specs.Prelude.{slice_index}
use Rattle.san_base.specs.declared.ending.Trap.{Trap}
use Rattle.san_law.specs.Net.{Faulty, Fresh, Renewing, Row, Timer}
use Rattle.san_law.specs.Renewal.{Due}
use Rattle.san_law.specs.Activity.{Activity, Part, activity_of, delay_stream, no_activity}
use Rattle.san_law.specs.Clocks.{AllClocks, BadClock, Clock, Clocks, clock_and, clock_then, renewed_act, renewed_acts, renewed_row, row_of_clocks}
use Rattle.san_legal.specs.Draws.{AreDraws}
use Rattle.san_legal.specs.Free.{HasDelays}
use Rattle.san_legal.specs.Kept.{HasOne, IsOne, RowAgrees, KeptTimer, KeptRow, timer_of}
use Rattle.san_legal.specs.KeptSteps.{row_in, set_by, set_row, set_timers, timer_in}
use Rattle.san_legal.proofs.KeptActs.{Alike, Back, Before, act_alike, act_back, act_go, least_word}

abbrev pub act_at : List Activity → ℕ → Activity
act_at acts i = slice_index_or acts i no_activity

-- a kept row has a timer and two numbers for each activity
pub record IsSizedKept (part : Part) (x : KeptRow) : Type 0 where
  pub timers : length x.timers ≡ length part.activities
  pub delays : length x.delays ≡ length part.activities
  pub cases : length x.cases ≡ length part.activities

-- one before others
abbrev pub first_then : {A : Type 0} → A → (ℕ → A) → ℕ → A
first_then a f zero = a
first_then a f (suc i) = f i

module _ (b : Due) (j time : ℕ) (from : b.time ≤ time) (seen values : List ℕ) where
  -- ---- alike

  record AreAlike (k : ℕ) (acts : List Activity) (xs : List (Option KeptTimer)) (ns : List ℕ) (us : List (Option Timer)) (ms : List ℕ) (vs : List (Option Timer)) (ls : List ℕ) : Type 0 where
    numbers : ms ≡ ls
    kept_long : length (set_timers time values xs ns us ms) ≡ length xs
    long : length vs ≡ length xs
    ones : (i : ℕ) → IsOne b j (k + i) (act_at acts i).kind (slice_index_or (set_timers time values xs ns us ms) i None) (slice_index_or vs i None)

  abbrev ClocksAlike : ℕ → List Activity → List (Option KeptTimer) → List ℕ → Clocks → Clocks → Type 0
  ClocksAlike k acts xs ns (BadClock i e) (BadClock l f) = (i ≡ l) × (e ≡ f)
  ClocksAlike k acts xs ns (BadClock i e) (AllClocks vs ls) = ⊥
  ClocksAlike k acts xs ns (AllClocks us ms) (BadClock l f) = ⊥
  ClocksAlike k acts xs ns (AllClocks us ms) (AllClocks vs ls) = AreAlike k acts xs ns us ms vs ls

  then_alike : (k : ℕ) (a : Activity) (acts : List Activity) (x : Option KeptTimer) (xs : List (Option KeptTimer)) (n : ℕ) (ns : List ℕ) (r q : Result Clock Trap) (rest more : Clocks)
      → Alike b j k a.kind time values x n r q → ClocksAlike (suc k) acts xs ns rest more → ClocksAlike k (a ∷ acts) (x ∷ xs) (n ∷ ns) (clock_then k r rest) (clock_then k q more)
  then_alike k a acts x xs n ns (Err e) (Err f) rest more h g = (refl, h)
  then_alike k a acts x xs n ns (Err e) (Ok d) rest more h g = absurd h
  then_alike k a acts x xs n ns (Ok c) (Err f) rest more h g = absurd h
  then_alike k a acts x xs n ns (Ok c) (Ok d) (BadClock i e) (BadClock l f) h g = g
  then_alike k a acts x xs n ns (Ok c) (Ok d) (BadClock i e) (AllClocks vs ls) h g = absurd g
  then_alike k a acts x xs n ns (Ok c) (Ok d) (AllClocks us ms) (BadClock l f) h g = absurd g
  then_alike k a acts x xs n ns (Ok c) (Ok d) (AllClocks us ms) (AllClocks vs ls) h g = record {
    numbers = ap (λ (m : ℕ). m ∷ ms) h.0 ∙ ap (λ (l : List ℕ). d.1 ∷ l) g.numbers;
    kept_long = ap suc g.kept_long;
    long = ap suc g.long;
    ones = each;
  }
    where
      each : (i : ℕ) → IsOne b j (k + i) (act_at (a ∷ acts) i).kind (slice_index_or (set_timers time values (x ∷ xs) (n ∷ ns) (c.0 ∷ us) (c.1 ∷ ms)) i None) (slice_index_or (d.0 ∷ vs) i None)
      each zero = let here : k ≡ k + 0 = omega arith in subst (λ (l : ℕ). IsOne b j l a.kind (set_by time values x (nat_lt n c.1) c.0) d.0) here h.1
      each (suc i) = let there : suc k + i ≡ k + suc i = omega arith in subst (λ (l : ℕ). IsOne b j l (act_at acts i).kind (slice_index_or (set_timers time values xs ns us ms) i None) (slice_index_or vs i None)) there (g.ones i)

  acts_alike : (draws : ℕ → ℕ → ℕ) → ((i n : ℕ) → draws i n < 2 ^ 64) → (k : ℕ) (acts : List Activity) (xs : List (Option KeptTimer)) (ns : List ℕ) (ts : List (Option Timer))
      → length xs ≡ length acts → length ns ≡ length acts → length ts ≡ length acts → ((i : ℕ) → HasDelays (act_at acts i).kind) → ((i : ℕ) → IsOne b j (k + i) (act_at acts i).kind (slice_index_or xs i None) (slice_index_or ts i None))
      → ClocksAlike k acts xs ns (renewed_acts (λ i n. 0) time seen values k acts (map timer_in xs) ns) (renewed_acts draws time seen values k acts ts ns)
  acts_alike draws words k [] [] [] [] lx ln lt free ones = record { numbers = refl; kept_long = refl; long = refl; ones = λ i. tt }
  acts_alike draws words k [] (x ∷ xs) ns ts lx ln lt free ones = absurd (omega (arith, lx))
  acts_alike draws words k [] [] (n ∷ ns) ts lx ln lt free ones = absurd (omega (arith, ln))
  acts_alike draws words k [] [] [] (t ∷ ts) lx ln lt free ones = absurd (omega (arith, lt))
  acts_alike draws words k (a ∷ acts) [] ns ts lx ln lt free ones = absurd (omega (arith, lx))
  acts_alike draws words k (a ∷ acts) (x ∷ xs) [] ts lx ln lt free ones = absurd (omega (arith, ln))
  acts_alike draws words k (a ∷ acts) (x ∷ xs) (n ∷ ns) [] lx ln lt free ones = absurd (omega (arith, lt))
  acts_alike draws words k (a ∷ acts) (x ∷ xs) (n ∷ ns) (t ∷ ts) lx ln lt free ones =
      let here : k + 0 ≡ k = omega arith in
      let one : IsOne b j k a.kind x t = subst (λ (l : ℕ). IsOne b j l a.kind x t) here (ones 0) in
      then_alike k a acts x xs n ns (renewed_act (λ l. 0) time seen values a a.kind (timer_in x) n) (renewed_act (draws k) time seen values a a.kind t n)
      (renewed_acts (λ i l. 0) time seen values (suc k) acts (map timer_in xs) ns) (renewed_acts draws time seen values (suc k) acts ts ns)
      (act_alike b j k time from seen values (draws k) a a.kind x t n (free 0) (words k n) one)
      (acts_alike draws words (suc k) acts xs ns ts (omega (arith, lx)) (omega (arith, ln)) (omega (arith, lt)) (λ i. free (suc i))
      (λ i. (let there : k + suc i ≡ suc k + i = omega arith in subst (λ (l : ℕ). IsOne b j l (act_at acts i).kind (slice_index_or xs i None) (slice_index_or ts i None)) there (ones (suc i)))))

  -- a leaf
  abbrev pub RowAlike : Part → KeptRow → Renewing → Renewing → Type 0
  RowAlike part x (Faulty i e) (Faulty l f) = (i ≡ l) × (e ≡ f)
  RowAlike part x (Faulty i e) (Fresh s) = ⊥
  RowAlike part x (Fresh r) (Faulty l f) = ⊥
  RowAlike part x (Fresh r) (Fresh s) = RowAgrees b j part (set_row time values x r) s

  clocks_alike : (part : Part) (x : KeptRow) (cases : List ℕ) → cases ≡ x.cases → (c d : Clocks) → ClocksAlike 0 part.activities x.timers x.delays c d → RowAlike part x (row_of_clocks x.cases c) (row_of_clocks cases d)
  clocks_alike part x cases same (BadClock i e) (BadClock l f) h = h
  clocks_alike part x cases same (BadClock i e) (AllClocks vs ls) h = absurd h
  clocks_alike part x cases same (AllClocks us ms) (BadClock l f) h = absurd h
  clocks_alike part x cases same (AllClocks us ms) (AllClocks vs ls) h = record {
    long = h.long ∙ sym h.kept_long;
    timers = λ i. (let at : 0 + i ≡ i = omega arith in subst (λ (l : ℕ). IsOne b j l (activity_of part i).kind (slice_index_or (set_timers time values x.timers x.delays us ms) i None) (slice_index_or vs i None)) at (h.ones i));
    delays = sym h.numbers;
    cases = same;
  }

  pub row_alike : (draw : ℕ → ℕ → ℕ) → AreDraws draw → (part : Part) (x : KeptRow) (r : Row) → IsSizedKept part x → ((i : ℕ) → HasDelays (activity_of part i).kind) → RowAgrees b j part x r
      → RowAlike part x (renewed_row (λ s n. 0) part time seen (record { values = values; row = row_in x })) (renewed_row draw part time seen (record { values = values; row = r }))
  row_alike draw words part x r sized free is =
      let long : length r.timers ≡ length part.activities = is.long ∙ sized.timers in
      let kept = renewed_acts (λ i n. 0) time seen values 0 part.activities (map timer_in x.timers) x.delays in
      let streams = λ (k : ℕ). draw (delay_stream part k) in
      let alike : ClocksAlike 0 part.activities x.timers x.delays kept (renewed_acts streams time seen values 0 part.activities r.timers x.delays)
      = acts_alike streams (λ i n. words (delay_stream part i) n) 0 part.activities x.timers x.delays r.timers sized.timers sized.delays long free
      (λ i. (let at : i ≡ 0 + i = omega arith in subst (λ (l : ℕ). IsOne b j l (activity_of part i).kind (timer_of x i) (slice_index_or r.timers i None)) at (is.timers i))) in
      clocks_alike part x r.cases is.cases kept (renewed_acts streams time seen values 0 part.activities r.timers r.delays)
      (subst (λ (ns : List ℕ). ClocksAlike 0 part.activities x.timers x.delays kept (renewed_acts streams time seen values 0 part.activities r.timers ns)) (sym is.delays) alike)

  -- ---- back

  record ActsBefore (k : ℕ) (acts : List Activity) (xs : List (Option KeptTimer)) (ns : List ℕ) (ys : List (Option Timer)) (ms : List ℕ) : Type 0 where
    draws : ℕ → ℕ
    words : (i : ℕ) → draws i < 2 ^ 64
    timers : List (Option Timer)
    long : length timers ≡ length xs
    ones : (i : ℕ) → IsOne b j (k + i) (act_at acts i).kind (slice_index_or xs i None) (slice_index_or timers i None)
    is : (streams : ℕ → ℕ → ℕ) → ((i : ℕ) → i < length acts → streams (k + i) (slice_index ns i) ≡ draws i) → renewed_acts streams time seen values k acts timers ns ≡ AllClocks ys ms

  abbrev ActsBack : ℕ → List Activity → List (Option KeptTimer) → List ℕ → Clocks → Type 0
  ActsBack k acts xs ns (BadClock i e) = Unit {0}
  ActsBack k acts xs ns (AllClocks us ms) = (ys : List (Option Timer)) → length ys ≡ length (set_timers time values xs ns us ms)
      → ((i : ℕ) → IsOne b j (k + i) (act_at acts i).kind (slice_index_or (set_timers time values xs ns us ms) i None) (slice_index_or ys i None)) → ActsBefore k acts xs ns ys ms

  both_before : (k : ℕ) (a : Activity) (acts : List Activity) (x : Option KeptTimer) (xs : List (Option KeptTimer)) (n : ℕ) (ns : List ℕ) (y : Option Timer) (ys : List (Option Timer)) (m : ℕ) (ms : List ℕ)
      → Before b j k a.kind x n (act_go b j k time from seen values a a.kind n) y m → ActsBefore (suc k) acts xs ns ys ms → ActsBefore k (a ∷ acts) (x ∷ xs) (n ∷ ns) (y ∷ ys) (m ∷ ms)
  both_before k a acts x xs n ns y ys m ms one more = record {
    draws = first_then one.draw more.draws;
    words = word;
    timers = one.timer ∷ more.timers;
    long = ap suc more.long;
    ones = each;
    is = λ streams agree. (
        let here : k + 0 ≡ k = omega arith in
        let head : streams k n ≡ one.draw = subst (λ (l : ℕ). streams l n ≡ one.draw) here (agree 0 (omega arith)) in
        let tail : renewed_acts streams time seen values (suc k) acts more.timers ns ≡ AllClocks ys ms = more.is streams (λ i h. (let there : k + suc i ≡ suc k + i = omega arith in subst (λ (l : ℕ). streams l (slice_index ns i) ≡ more.draws i) there (agree (suc i) (omega (arith, h))))) in
        ap (λ (r : Result Clock Trap). clock_then k r (renewed_acts streams time seen values (suc k) acts more.timers ns)) (one.is (streams k) head)
        ∙ ap (clock_and (y, m)) tail);
  }
    where
      word : (i : ℕ) → first_then one.draw more.draws i < 2 ^ 64
      word zero = one.word
      word (suc i) = more.words i

      each : (i : ℕ) → IsOne b j (k + i) (act_at (a ∷ acts) i).kind (slice_index_or (x ∷ xs) i None) (slice_index_or (one.timer ∷ more.timers) i None)
      each zero = let here : k ≡ k + 0 = omega arith in subst (λ (l : ℕ). IsOne b j l a.kind x one.timer) here one.one
      each (suc i) = let there : suc k + i ≡ k + suc i = omega arith in subst (λ (l : ℕ). IsOne b j l (act_at acts i).kind (slice_index_or xs i None) (slice_index_or more.timers i None)) there (more.ones i)

  then_back : (k : ℕ) (a : Activity) (acts : List Activity) (x : Option KeptTimer) (xs : List (Option KeptTimer)) (n : ℕ) (ns : List ℕ) (r : Result Clock Trap) (rest : Clocks)
      → Back b j k a.kind time values x n (act_go b j k time from seen values a a.kind n) r → ActsBack (suc k) acts xs ns rest → ActsBack k (a ∷ acts) (x ∷ xs) (n ∷ ns) (clock_then k r rest)
  then_back k a acts x xs n ns (Err e) rest h g = tt
  then_back k a acts x xs n ns (Ok c) (BadClock i e) h g = tt
  then_back k a acts x xs n ns (Ok c) (AllClocks us ms) h g = by_timers
    where
      by_timers : (ys : List (Option Timer)) → length ys ≡ length (set_timers time values (x ∷ xs) (n ∷ ns) (c.0 ∷ us) (c.1 ∷ ms))
          → ((i : ℕ) → IsOne b j (k + i) (act_at (a ∷ acts) i).kind (slice_index_or (set_timers time values (x ∷ xs) (n ∷ ns) (c.0 ∷ us) (c.1 ∷ ms)) i None) (slice_index_or ys i None)) → ActsBefore k (a ∷ acts) (x ∷ xs) (n ∷ ns) ys (c.1 ∷ ms)
      by_timers [] long ones = absurd (omega (arith, long))
      by_timers (y ∷ ys) long ones =
          let here : k + 0 ≡ k = omega arith in
          both_before k a acts x xs n ns y ys c.1 ms
          (h y (subst (λ (l : ℕ). IsOne b j l a.kind (set_by time values x (nat_lt n c.1) c.0) y) here (ones 0)))
          (g ys (omega (arith, long)) (λ i. (let there : k + suc i ≡ suc k + i = omega arith in subst (λ (l : ℕ). IsOne b j l (act_at acts i).kind (slice_index_or (set_timers time values xs ns us ms) i None) (slice_index_or ys i None)) there (ones (suc i)))))

  none_back : (k : ℕ) (ys : List (Option Timer)) → length ys ≡ 0 → ActsBefore k [] [] [] ys []
  none_back k [] long = record { draws = λ i. 0; words = λ i. least_word; timers = []; long = refl; ones = λ i. tt; is = λ streams agree. refl }
  none_back k (y ∷ ys) long = absurd (omega (arith, long))

  acts_back : (k : ℕ) (acts : List Activity) (xs : List (Option KeptTimer)) (ns : List ℕ) → length xs ≡ length acts → length ns ≡ length acts → ((i : ℕ) → HasDelays (act_at acts i).kind)
      → ((i : ℕ) → HasOne b j (k + i) (act_at acts i).kind (slice_index_or xs i None)) → ActsBack k acts xs ns (renewed_acts (λ i n. 0) time seen values k acts (map timer_in xs) ns)
  acts_back k [] [] [] lx ln free some = λ ys long ones. none_back k ys long
  acts_back k [] (x ∷ xs) ns lx ln free some = absurd (omega (arith, lx))
  acts_back k [] [] (n ∷ ns) lx ln free some = absurd (omega (arith, ln))
  acts_back k (a ∷ acts) [] ns lx ln free some = absurd (omega (arith, lx))
  acts_back k (a ∷ acts) (x ∷ xs) [] lx ln free some = absurd (omega (arith, ln))
  acts_back k (a ∷ acts) (x ∷ xs) (n ∷ ns) lx ln free some =
      let here : k + 0 ≡ k = omega arith in
      then_back k a acts x xs n ns (renewed_act (λ l. 0) time seen values a a.kind (timer_in x) n) (renewed_acts (λ i l. 0) time seen values (suc k) acts (map timer_in xs) ns)
      (act_back b j k time from seen values a a.kind x n (free 0) (subst (λ (l : ℕ). HasOne b j l a.kind x) here (some 0)))
      (acts_back (suc k) acts xs ns (omega (arith, lx)) (omega (arith, ln)) (λ i. free (suc i)) (λ i. (let there : k + suc i ≡ suc k + i = omega arith in subst (λ (l : ℕ). HasOne b j l (act_at acts i).kind (slice_index_or xs i None)) there (some (suc i)))))

  -- a leaf
  pub record RowBefore (part : Part) (x : KeptRow) (y : Row) : Type 0 where
    pub draws : ℕ → ℕ
    pub words : (i : ℕ) → draws i < 2 ^ 64
    pub row : Row
    pub of : RowAgrees b j part x row
    pub is : (draw : ℕ → ℕ → ℕ) → ((i : ℕ) → i < length part.activities → draw (delay_stream part i) (slice_index x.delays i) ≡ draws i) → renewed_row draw part time seen (record { values = values; row = row }) ≡ Fresh y

  abbrev pub RowBack : Part → KeptRow → Renewing → Type 0
  RowBack part x (Faulty i e) = Unit {0}
  RowBack part x (Fresh r) = (y : Row) → RowAgrees b j part (set_row time values x r) y → RowBefore part x y

  clocks_back : (part : Part) (x : KeptRow) (c : Clocks) → ActsBack 0 part.activities x.timers x.delays c → RowBack part x (row_of_clocks x.cases c)
  clocks_back part x (BadClock i e) h = tt
  clocks_back part x (AllClocks us ms) h = λ y of. (
      let b_acts = h y.timers of.long (λ i. (let at : i ≡ 0 + i = omega arith in subst (λ (l : ℕ). IsOne b j l (activity_of part i).kind (slice_index_or (set_timers time values x.timers x.delays us ms) i None) (slice_index_or y.timers i None)) at (of.timers i))) in
      record {
        draws = b_acts.draws;
        words = b_acts.words;
        row = record { timers = b_acts.timers; delays = x.delays; cases = x.cases };
        of = record {
          long = b_acts.long;
          timers = λ i. (let at : 0 + i ≡ i = omega arith in subst (λ (l : ℕ). IsOne b j l (activity_of part i).kind (timer_of x i) (slice_index_or b_acts.timers i None)) at (b_acts.ones i));
          delays = refl;
          cases = refl;
        };
        is = λ draw agree.
            ap (row_of_clocks x.cases) (b_acts.is (λ l. draw (delay_stream part l)) (λ i g. (let at : i ≡ 0 + i = omega arith in subst (λ (l : ℕ). draw (delay_stream part l) (slice_index x.delays i) ≡ b_acts.draws i) at (agree i g))))
            ∙ (ap (λ (ns : List ℕ). Fresh (record { timers = y.timers; delays = ns; cases = x.cases })) (sym of.delays)
            ∙ ap (λ (ns : List ℕ). Fresh (record { timers = y.timers; delays = y.delays; cases = ns })) (sym of.cases));
      })

  pub row_back : (part : Part) (x : KeptRow) → IsSizedKept part x → ((i : ℕ) → HasDelays (activity_of part i).kind) → ((i : ℕ) → HasOne b j i (activity_of part i).kind (timer_of x i))
      → RowBack part x (renewed_row (λ s n. 0) part time seen (record { values = values; row = row_in x }))
  row_back part x sized free some =
      clocks_back part x (renewed_acts (λ i n. 0) time seen values 0 part.activities (map timer_in x.timers) x.delays)
      (acts_back 0 part.activities x.timers x.delays sized.timers sized.delays free
      (λ i. (let at : i ≡ 0 + i = omega arith in subst (λ (l : ℕ). HasOne b j l (activity_of part i).kind (timer_of x i)) at (some i))))
