-- The renewal of all leaves: kept, and with draws.
use Rattle.std.proofs.Common.{ℕ, zero, suc, ◌+◌, ◌^◌, ◌≤◌, ◌<◌, ◌≡◌, ◌∙◌, ap, sym, subst, refl, arith, List, [], ◌∷◌, length, map}
use Rattle.std.specs.Prelude.{slice_index}
use Rattle.san_law.specs.Net.{Faulty, Fresh, Net, Renewing, Row, no_row}
use Rattle.san_law.specs.Renewal.{AllFresh, Due, FaultAt, Renewal, and_rest, renewed_at, renewed_from, renewed_then}
use Rattle.san_law.specs.Activity.{activity_of, delay_stream}
use Rattle.san_law.specs.Network.{Limits, Network, net_of, part_at}
use Rattle.san_law.specs.State.{gather, slots_of}
use Rattle.san_legal.specs.Draws.{AreDraws}
use Rattle.san_legal.specs.Free.{HasDelays}
use Rattle.san_legal.specs.Kept.{RowsAgree, HasOne, HaveSome, RowAgrees, KeptRow, KeptState, bound_of, kept_at, no_kept, timer_of, with_rows}
use Rattle.san_legal.specs.KeptSteps.{kept_renewed, row_in, set_row, set_rows, state_in, undrawn}
use Rattle.san_legal.proofs.KeptActs.{least_word}
use Rattle.san_legal.proofs.KeptClocks.{IsSizedKept, RowAlike, RowBack, RowBefore, first_then, row_alike, row_back}
use Rattle.san_legal.proofs.RowLemmas.{row_at}

-- all rows are as long as the activities
abbrev pub AreSizedKept : Network → List KeptRow → Type 0
AreSizedKept network xs = (j : ℕ) → IsSizedKept (part_at network j) (kept_at xs j)

-- whatever the draws, an activity's delay traps or is a number of ticks
abbrev pub AllDelays : Network → Type 0
AllDelays network = (j i : ℕ) → HasDelays (activity_of (part_at network j) i).kind

none_of : (network : Network) (b : Due) (j : ℕ) → RowAgrees b j (part_at network j) no_kept no_row
none_of network b j = record { long = refl; timers = λ i. tt; delays = refl; cases = refl }

module _ (network : Network) (limits : Limits) (k : KeptState) (free : AllDelays network) where
  abbrev b : Due
  b = bound_of k

  abbrev still : Net
  still = undrawn network limits

  same_time : b.time ≤ k.time
  same_time = omega arith

  abbrev values_of : ℕ → List ℕ
  values_of j = gather (slots_of still j) k.marking

  abbrev seen_of : ℕ → List ℕ
  seen_of j = gather (slots_of still j) k.stable

  -- ---- alike

  pub record RowsAlike (j : ℕ) (xs : List KeptRow) (fs gs : List Row) : Type 0 where
    pub kept_long : length (set_rows still k.time k.marking j xs fs) ≡ length xs
    pub long : length gs ≡ length xs
    pub each : (i : ℕ) → RowAgrees b (j + i) (part_at network (j + i)) (kept_at (set_rows still k.time k.marking j xs fs) i) (row_at gs i)

  abbrev pub RenewalAlike : ℕ → List KeptRow → Renewal → Renewal → Type 0
  RenewalAlike j xs (FaultAt l i e) (FaultAt m q f) = (l ≡ m) × (i ≡ q) × (e ≡ f)
  RenewalAlike j xs (FaultAt l i e) (AllFresh gs) = ⊥
  RenewalAlike j xs (AllFresh fs) (FaultAt m q f) = ⊥
  RenewalAlike j xs (AllFresh fs) (AllFresh gs) = RowsAlike j xs fs gs

  then_alike : (j : ℕ) (x : KeptRow) (xs : List KeptRow) (r q : Renewing) (rest more : Renewal) → RowAlike b j k.time same_time (seen_of j) (values_of j) (part_at network j) x r q → RenewalAlike (suc j) xs rest more
      → RenewalAlike j (x ∷ xs) (renewed_then j r rest) (renewed_then j q more)
  then_alike j x xs (Faulty i e) (Faulty l f) rest more h g = (refl, h.0, h.1)
  then_alike j x xs (Faulty i e) (Fresh s) rest more h g = absurd h
  then_alike j x xs (Fresh r) (Faulty l f) rest more h g = absurd h
  then_alike j x xs (Fresh r) (Fresh s) (FaultAt l i e) (FaultAt m q f) h g = g
  then_alike j x xs (Fresh r) (Fresh s) (FaultAt l i e) (AllFresh gs) h g = absurd g
  then_alike j x xs (Fresh r) (Fresh s) (AllFresh fs) (FaultAt m q f) h g = absurd g
  then_alike j x xs (Fresh r) (Fresh s) (AllFresh fs) (AllFresh gs) h g = record { kept_long = ap suc g.kept_long; long = ap suc g.long; each = one }
    where
      one : (i : ℕ) → RowAgrees b (j + i) (part_at network (j + i)) (kept_at (set_rows still k.time k.marking j (x ∷ xs) (r ∷ fs)) i) (row_at (s ∷ gs) i)
      one zero = let here : j ≡ j + 0 = omega arith in subst (λ (l : ℕ). RowAgrees b l (part_at network l) (set_row k.time (values_of j) x r) s) here h
      one (suc i) = let there : suc j + i ≡ j + suc i = omega arith in subst (λ (l : ℕ). RowAgrees b l (part_at network l) (kept_at (set_rows still k.time k.marking (suc j) xs fs) i) (row_at gs i)) there (g.each i)

  rows_alike : (draw : ℕ → ℕ → ℕ) → AreDraws draw → (olds news : List Row) (j : ℕ) (xs : List KeptRow) (rs : List Row) → length rs ≡ length xs
      → ((i : ℕ) → IsSizedKept (part_at network (j + i)) (kept_at xs i)) → ((i : ℕ) → RowAgrees b (j + i) (part_at network (j + i)) (kept_at xs i) (row_at rs i))
      → RenewalAlike j xs (renewed_from still (with_rows k olds) j (map row_in xs)) (renewed_from (net_of draw network limits) (with_rows k news) j rs)
  rows_alike draw words olds news j [] [] long sized are = record { kept_long = refl; long = refl; each = λ i. none_of network b (j + i) }
  rows_alike draw words olds news j [] (r ∷ rs) long sized are = absurd (omega (arith, long))
  rows_alike draw words olds news j (x ∷ xs) [] long sized are = absurd (omega (arith, long))
  rows_alike draw words olds news j (x ∷ xs) (r ∷ rs) long sized are =
      let here : j + 0 ≡ j = omega arith in
      let net = net_of draw network limits in
      then_alike j x xs (renewed_at still (with_rows k olds) j (row_in x)) (renewed_at net (with_rows k news) j r) (renewed_from still (with_rows k olds) (suc j) (map row_in xs)) (renewed_from net (with_rows k news) (suc j) rs)
      (row_alike b j k.time same_time (seen_of j) (values_of j) draw words (part_at network j) x r (subst (λ (l : ℕ). IsSizedKept (part_at network l) x) here (sized 0)) (free j) (subst (λ (l : ℕ). RowAgrees b l (part_at network l) x r) here (are 0)))
      (rows_alike draw words olds news (suc j) xs rs (omega (arith, long))
      (λ i. (let there : j + suc i ≡ suc j + i = omega arith in subst (λ (l : ℕ). IsSizedKept (part_at network l) (kept_at xs i)) there (sized (suc i))))
      (λ i. (let there : j + suc i ≡ suc j + i = omega arith in subst (λ (l : ℕ). RowAgrees b l (part_at network l) (kept_at xs i) (row_at rs i)) there (are (suc i)))))

  pub renewal_alike : (draw : ℕ → ℕ → ℕ) → AreDraws draw → (rows : List Row) → AreSizedKept network k.rows → RowsAgree network b k.rows rows
      → RenewalAlike 0 k.rows (renewed_from still (state_in k) 0 (map row_in k.rows)) (renewed_from (net_of draw network limits) (with_rows k rows) 0 rows)
  renewal_alike draw words rows sized are =
      rows_alike draw words (map row_in k.rows) rows 0 k.rows rows are.long
      (λ i. (let at : i ≡ 0 + i = omega arith in subst (λ (l : ℕ). IsSizedKept (part_at network l) (kept_at k.rows i)) at (sized i)))
      (λ i. (let at : i ≡ 0 + i = omega arith in subst (λ (l : ℕ). RowAgrees b l (part_at network l) (kept_at k.rows i) (row_at rows i)) at (are.each i)))

  pub alike_rows : (fs gs : List Row) → RowsAlike 0 k.rows fs gs → RowsAgree network b (kept_renewed still k fs) gs
  alike_rows fs gs h = record {
    long = h.long ∙ sym h.kept_long;
    each = λ j. (let at : 0 + j ≡ j = omega arith in subst (λ (l : ℕ). RowAgrees b l (part_at network l) (kept_at (kept_renewed still k fs) j) (row_at gs j)) at (h.each j));
  }

  -- ---- back

  pub record RowsBefore (j : ℕ) (xs : List KeptRow) (ys : List Row) : Type 0 where
    pub draws : ℕ → ℕ → ℕ
    pub words : (l i : ℕ) → draws l i < 2 ^ 64
    pub rows : List Row
    pub long : length rows ≡ length xs
    pub each : (l : ℕ) → RowAgrees b (j + l) (part_at network (j + l)) (kept_at xs l) (row_at rows l)
    pub is : (draw : ℕ → ℕ → ℕ) → ((l i : ℕ) → i < length (part_at network (j + l)).activities → draw (delay_stream (part_at network (j + l)) i) (slice_index (kept_at xs l).delays i) ≡ draws l i)
        → (olds : List Row) → renewed_from (net_of draw network limits) (with_rows k olds) j rows ≡ AllFresh ys

  abbrev RenewalBack : ℕ → List KeptRow → Renewal → Type 0
  RenewalBack j xs (FaultAt l i e) = Unit {0}
  RenewalBack j xs (AllFresh fs) = (ys : List Row) → length ys ≡ length (set_rows still k.time k.marking j xs fs)
      → ((l : ℕ) → RowAgrees b (j + l) (part_at network (j + l)) (kept_at (set_rows still k.time k.marking j xs fs) l) (row_at ys l)) → RowsBefore j xs ys

  both_before : (j : ℕ) (x : KeptRow) (xs : List KeptRow) (y : Row) (ys : List Row) → RowBefore b j k.time same_time (seen_of j) (values_of j) (part_at network j) x y → RowsBefore (suc j) xs ys → RowsBefore j (x ∷ xs) (y ∷ ys)
  both_before j x xs y ys one more = record {
    draws = first_then one.draws more.draws;
    words = word;
    rows = one.row ∷ more.rows;
    long = ap suc more.long;
    each = row;
    is = λ draw agree olds. (
        let here : j + 0 ≡ j = omega arith in
        let net = net_of draw network limits in
        let head : renewed_at net (with_rows k olds) j one.row ≡ Fresh y
        = one.is draw (λ i h. (
        subst (λ (l : ℕ). draw (delay_stream (part_at network l) i) (slice_index x.delays i) ≡ one.draws i) here
        (agree 0 i (subst (λ (l : ℕ). i < length (part_at network l).activities) (sym here) h)))) in
        let tail : renewed_from net (with_rows k olds) (suc j) more.rows ≡ AllFresh ys
        = more.is draw (λ l i h. (let there : j + suc l ≡ suc j + l = omega arith in
        subst (λ (m : ℕ). draw (delay_stream (part_at network m) i) (slice_index (kept_at xs l).delays i) ≡ more.draws l i) there
        (agree (suc l) i (subst (λ (m : ℕ). i < length (part_at network m).activities) (sym there) h)))) olds in
        ap (λ (r : Renewing). renewed_then j r (renewed_from net (with_rows k olds) (suc j) more.rows)) head ∙ ap (and_rest y) tail);
  }
    where
      word : (l i : ℕ) → first_then one.draws more.draws l i < 2 ^ 64
      word zero i = one.words i
      word (suc l) i = more.words l i

      row : (l : ℕ) → RowAgrees b (j + l) (part_at network (j + l)) (kept_at (x ∷ xs) l) (row_at (one.row ∷ more.rows) l)
      row zero = let here : j ≡ j + 0 = omega arith in subst (λ (l : ℕ). RowAgrees b l (part_at network l) x one.row) here one.of
      row (suc l) = let there : suc j + l ≡ j + suc l = omega arith in subst (λ (m : ℕ). RowAgrees b m (part_at network m) (kept_at xs l) (row_at more.rows l)) there (more.each l)

  then_back : (j : ℕ) (x : KeptRow) (xs : List KeptRow) (r : Renewing) (rest : Renewal) → RowBack b j k.time same_time (seen_of j) (values_of j) (part_at network j) x r → RenewalBack (suc j) xs rest → RenewalBack j (x ∷ xs) (renewed_then j r rest)
  then_back j x xs (Faulty i e) rest h g = tt
  then_back j x xs (Fresh r) (FaultAt l i e) h g = tt
  then_back j x xs (Fresh r) (AllFresh fs) h g = by_rows
    where
      by_rows : (ys : List Row) → length ys ≡ length (set_rows still k.time k.marking j (x ∷ xs) (r ∷ fs))
          → ((l : ℕ) → RowAgrees b (j + l) (part_at network (j + l)) (kept_at (set_rows still k.time k.marking j (x ∷ xs) (r ∷ fs)) l) (row_at ys l)) → RowsBefore j (x ∷ xs) ys
      by_rows [] long each = absurd (omega (arith, long))
      by_rows (y ∷ ys) long each =
          let here : j + 0 ≡ j = omega arith in
          both_before j x xs y ys
          (h y (subst (λ (l : ℕ). RowAgrees b l (part_at network l) (set_row k.time (values_of j) x r) y) here (each 0)))
          (g ys (omega (arith, long)) (λ l. (let there : j + suc l ≡ suc j + l = omega arith in subst (λ (m : ℕ). RowAgrees b m (part_at network m) (kept_at (set_rows still k.time k.marking (suc j) xs fs) l) (row_at ys l)) there (each (suc l)))))

  none_back : (j : ℕ) (ys : List Row) → length ys ≡ 0 → RowsBefore j [] ys
  none_back j [] long = record { draws = λ l i. 0; words = λ l i. least_word; rows = []; long = refl; each = λ l. none_of network b (j + l); is = λ draw agree olds. refl }
  none_back j (y ∷ ys) long = absurd (omega (arith, long))

  rows_back : (olds : List Row) (j : ℕ) (xs : List KeptRow) → ((i : ℕ) → IsSizedKept (part_at network (j + i)) (kept_at xs i)) → ((l i : ℕ) → HasOne b (j + l) i (activity_of (part_at network (j + l)) i).kind (timer_of (kept_at xs l) i))
      → RenewalBack j xs (renewed_from still (with_rows k olds) j (map row_in xs))
  rows_back olds j [] sized some = λ ys long each. none_back j ys long
  rows_back olds j (x ∷ xs) sized some =
      let here : j + 0 ≡ j = omega arith in
      then_back j x xs (renewed_at still (with_rows k olds) j (row_in x)) (renewed_from still (with_rows k olds) (suc j) (map row_in xs))
      (row_back b j k.time same_time (seen_of j) (values_of j) (part_at network j) x (subst (λ (l : ℕ). IsSizedKept (part_at network l) x) here (sized 0)) (free j)
      (subst (λ (l : ℕ). (i : ℕ) → HasOne b l i (activity_of (part_at network l) i).kind (timer_of x i)) here (some 0)))
      (rows_back olds (suc j) xs (λ i. (let there : j + suc i ≡ suc j + i = omega arith in subst (λ (l : ℕ). IsSizedKept (part_at network l) (kept_at xs i)) there (sized (suc i))))
      (λ l. (let there : j + suc l ≡ suc j + l = omega arith in subst (λ (m : ℕ). (i : ℕ) → HasOne b m i (activity_of (part_at network m) i).kind (timer_of (kept_at xs l) i)) there (some (suc l)))))

  renewal_back : AreSizedKept network k.rows → HaveSome network b k.rows → RenewalBack 0 k.rows (renewed_from still (state_in k) 0 (map row_in k.rows))
  renewal_back sized some =
      rows_back (map row_in k.rows) 0 k.rows
      (λ i. (let at : i ≡ 0 + i = omega arith in subst (λ (l : ℕ). IsSizedKept (part_at network l) (kept_at k.rows i)) at (sized i)))
      (λ l. (let at : l ≡ 0 + l = omega arith in subst (λ (m : ℕ). (i : ℕ) → HasOne b m i (activity_of (part_at network m) i).kind (timer_of (kept_at k.rows l) i)) at (some l)))

  -- each rows that agree with what is kept after a renewal come by some draws from rows that agree with what was kept before
  pub rows_before : (fs ys : List Row) → renewed_from still (state_in k) 0 (map row_in k.rows) ≡ AllFresh fs → AreSizedKept network k.rows → HaveSome network b k.rows → RowsAgree network b (kept_renewed still k fs) ys → RowsBefore 0 k.rows ys
  rows_before fs ys renewed sized some are =
      subst (RenewalBack 0 k.rows) renewed (renewal_back sized some) ys are.long
      (λ l. (let at : l ≡ 0 + l = omega arith in subst (λ (m : ℕ). RowAgrees b m (part_at network m) (kept_at (kept_renewed still k fs) l) (row_at ys l)) at (are.each l)))

  pub before_rows : (ys : List Row) → (h : RowsBefore 0 k.rows ys) → RowsAgree network b k.rows h.rows
  before_rows ys h = record {
    long = h.long;
    each = λ j. (let at : 0 + j ≡ j = omega arith in subst (λ (l : ℕ). RowAgrees b l (part_at network l) (kept_at k.rows j) (row_at h.rows j)) at (h.each j));
  }
