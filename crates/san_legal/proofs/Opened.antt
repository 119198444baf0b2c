-- The opening: its rows are as long as the activities, and what is kept of it is it alone.
use Rattle.std.proofs.Common.{ℕ, zero, suc, ◌+◌, ◌≤◌, ◌<◌, ◌≡◌, ◌⊎◌, ◌∙◌, inl, inr, ap, sym, subst, refl, arith, List, [], ◌∷◌, length, map, Option, Some, None, slice_index_or}
use Rattle.std.proofs.lemmas.Bool.{cases_lt}
use Rattle.std.proofs.lemmas.List.{length-map}
use Rattle.san_law.specs.Activity.{Part, activity_of}
use Rattle.san_law.specs.Net.{Net, Row, Slot, Timer, no_row}
use Rattle.san_law.specs.Network.{Limits, Network, net_of, no_part, part_at}
use Rattle.san_law.specs.Renewal.{Due}
use Rattle.san_law.specs.State.{State, blank_row, blank_rows, opening_state, repeated, row_of}
use Rattle.san_legal.specs.Kept.{HasOne, HaveSome, IsOne, RowAgrees, StateAgrees, KeptTimer, KeptRow, KeptState, bound_of, kept_at, timer_of, with_rows}
use Rattle.san_legal.specs.KeptSteps.{kept_bare, kept_opening, undrawn}
use Rattle.san_legal.specs.Locality.{IsSized, IsSizedRow}
use Rattle.san_legal.proofs.Finding.{IsReady}
use Rattle.san_legal.proofs.KeptClocks.{IsSizedKept}
use Rattle.san_legal.proofs.KeptRows.{AreSizedKept}
use Rattle.san_legal.proofs.RowLemmas.{row_at}

-- ---- blank rows

repeated_long : {A : Type 0} (n : ℕ) (a : A) → length (repeated n a) ≡ n
repeated_long zero a = refl
repeated_long (suc n) a = ap suc (repeated_long n a)

repeated_none : {A : Type 0} (n i : ℕ) → slice_index_or (repeated n (let o : Option A = None in o)) i None ≡ None
repeated_none zero i = refl
repeated_none (suc n) zero = refl
repeated_none {A = A} (suc n) (suc i) = repeated_none {A = A} n i

blank_at : (net : Net) (j : ℕ) (ps : List (List Slot)) (i : ℕ) → i < length ps → row_at (blank_rows net j ps) i ≡ blank_row (net.acts (j + i))
blank_at net j [] i h = absurd (omega (arith, h))
blank_at net j (p ∷ ps) zero h = let at : j ≡ j + 0 = omega arith in ap (λ (l : ℕ). blank_row (net.acts l)) at
blank_at net j (p ∷ ps) (suc i) h = let at : suc j + i ≡ j + suc i = omega arith in blank_at net (suc j) ps i (omega (arith, h)) ∙ ap (λ (l : ℕ). blank_row (net.acts l)) at

blank_out : (net : Net) (j : ℕ) (ps : List (List Slot)) (i : ℕ) → length ps ≤ i → row_at (blank_rows net j ps) i ≡ no_row
blank_out net j [] i h = refl
blank_out net j (p ∷ ps) zero h = absurd (omega (arith, h))
blank_out net j (p ∷ ps) (suc i) h = blank_out net (suc j) ps i (omega (arith, h))

blank_none : (net : Net) (j : ℕ) (ps : List (List Slot)) (l i : ℕ) → slice_index_or (row_at (blank_rows net j ps) l).timers i None ≡ None
blank_none net j [] l i = refl
blank_none net j (p ∷ ps) zero i = repeated_none {A = Timer} (net.acts j) i
blank_none net j (p ∷ ps) (suc l) i = blank_none net (suc j) ps l i

part_out : (parts : List Part) (j : ℕ) → length parts ≤ j → slice_index_or parts j no_part ≡ no_part
part_out [] j h = refl
part_out (p ∷ parts) zero h = absurd (omega (arith, h))
part_out (p ∷ parts) (suc j) h = part_out parts j (omega (arith, h))

blank_same : (network : Network) (limits : Limits) (draw other : ℕ → ℕ → ℕ) (j : ℕ) (ps : List (List Slot)) → blank_rows (net_of draw network limits) j ps ≡ blank_rows (net_of other network limits) j ps
blank_same network limits draw other j [] = refl
blank_same network limits draw other j (p ∷ ps) = ap (λ (rows : List Row). blank_row ((net_of draw network limits).acts j) ∷ rows) (blank_same network limits draw other (suc j) ps)

-- the opening needs no draw
pub opening_same : (network : Network) (limits : Limits) (draw other : ℕ → ℕ → ℕ) → opening_state (net_of draw network limits) ≡ opening_state (net_of other network limits)
opening_same network limits draw other =
    ap (λ (rows : List Row). (let s : State = record { time = 0; marking = network.initial; stable = network.initial; rows = rows; burst = 0; last = None; count = 0 } in s)) (blank_same network limits draw other 0 (net_of draw network limits).parts)

module _ (network : Network) (limits : Limits) where
  abbrev still : Net
  still = undrawn network limits

  abbrev opening : State
  opening = opening_state still

  pub opening_sized : IsSized network opening
  opening_sized j = by_place (cases_lt j (length still.parts))
    where
      by_place : (j < length still.parts) ⊎ (length still.parts ≤ j) → IsSizedRow (part_at network j) (row_of opening j)
      by_place (inl h) =
          let n : ℕ = length (part_at network j).activities in
          let at : 0 + j ≡ j = omega arith in
          let is : row_of opening j ≡ blank_row n = blank_at still 0 still.parts j h ∙ ap (λ (l : ℕ). blank_row (still.acts l)) at in
          subst (IsSizedRow (part_at network j)) (sym is) (record { timers = repeated_long n None; delays = repeated_long n 0; cases = repeated_long n 0 })
      by_place (inr h) =
          let is : row_of opening j ≡ no_row = blank_out still 0 still.parts j h in
          let none : part_at network j ≡ no_part = part_out network.parts j (omega (arith, h, length-map network.parts (λ (p : Part). p.slots))) in
          subst (λ (p : Part). IsSizedRow p (row_of opening j)) (sym none) (subst (IsSizedRow no_part) (sym is) (record { timers = refl; delays = refl; cases = refl }))

  -- ---- bare rows

  bare_at : (rows : List Row) (j : ℕ) → kept_at (map kept_bare rows) j ≡ kept_bare (row_at rows j)
  bare_at [] j = refl
  bare_at (r ∷ rows) zero = refl
  bare_at (r ∷ rows) (suc j) = bare_at rows j

  bare_none : (ts : List (Option Timer)) (i : ℕ) → slice_index_or (map (λ (t : Option Timer). (let o : Option KeptTimer = None in o)) ts) i None ≡ None
  bare_none [] i = refl
  bare_none (t ∷ ts) zero = refl
  bare_none (t ∷ ts) (suc i) = bare_none ts i

  abbrev kept : KeptState
  kept = kept_opening still

  opening_kept_sized : AreSizedKept network kept.rows
  opening_kept_sized j =
      let was = opening_sized j in
      let r = row_of opening j in
      subst (IsSizedKept (part_at network j)) (sym (bare_at opening.rows j))
      (record { timers = length-map r.timers (λ (t : Option Timer). (let o : Option KeptTimer = None in o)) ∙ was.timers; delays = was.delays; cases = was.cases })

  opening_some : HaveSome network (bound_of kept) kept.rows
  opening_some j i =
      let kind = (activity_of (part_at network j) i).kind in
      subst (λ (x : KeptRow). HasOne (bound_of kept) j i kind (timer_of x i)) (sym (bare_at opening.rows j))
      (subst (HasOne (bound_of kept) j i kind) (sym (bare_none (row_of opening j).timers i)) tt)

  pub opening_ready : IsReady network kept
  opening_ready = record { sized = opening_kept_sized; some = opening_some }

  -- ---- the opening agrees

  bare_of : (b : Due) (j : ℕ) (part : Part) (r : Row) → ((i : ℕ) → slice_index_or r.timers i None ≡ None) → RowAgrees b j part (kept_bare r) r
  bare_of b j part r none = record {
    long = sym (length-map r.timers (λ (t : Option Timer). (let o : Option KeptTimer = None in o)));
    timers = λ i. (
        let kind = (activity_of part i).kind in
        subst (λ (x : Option KeptTimer). IsOne b j i kind x (slice_index_or r.timers i None)) (sym (bare_none r.timers i))
        (subst (λ (t : Option Timer). IsOne b j i kind None t) (sym (none i)) tt));
    delays = refl;
    cases = refl;
  }

  pub opening_within : StateAgrees network kept opening
  opening_within = record {
    same = refl;
    rows = record {
      long = sym (length-map opening.rows kept_bare);
      each = λ j. subst (λ (x : KeptRow). RowAgrees (bound_of kept) j (part_at network j) x (row_at opening.rows j)) (sym (bare_at opening.rows j)) (bare_of (bound_of kept) j (part_at network j) (row_at opening.rows j) (blank_none still 0 still.parts j));
    };
  }

  -- ---- and it alone

  timers_only : (ts us : List (Option Timer)) → length ts ≡ length us → ((i : ℕ) → slice_index_or ts i None ≡ None) → ((i : ℕ) → slice_index_or us i None ≡ None) → ts ≡ us
  timers_only [] [] long h g = refl
  timers_only [] (u ∷ us) long h g = absurd (omega (arith, long))
  timers_only (t ∷ ts) [] long h g = absurd (omega (arith, long))
  timers_only (t ∷ ts) (u ∷ us) long h g =
      ap (λ (x : Option Timer). x ∷ ts) (h 0 ∙ sym (g 0)) ∙ ap (λ (xs : List (Option Timer)). u ∷ xs) (timers_only ts us (omega (arith, long)) (λ i. h (suc i)) (λ i. g (suc i)))

  rows_only : (news olds : List Row) → length news ≡ length olds → ((j : ℕ) → row_at news j ≡ row_at olds j) → news ≡ olds
  rows_only [] [] long h = refl
  rows_only [] (r ∷ olds) long h = absurd (omega (arith, long))
  rows_only (r ∷ news) [] long h = absurd (omega (arith, long))
  rows_only (r ∷ news) (q ∷ olds) long h = ap (λ (x : Row). x ∷ news) (h 0) ∙ ap (λ (xs : List Row). q ∷ xs) (rows_only news olds (omega (arith, long)) (λ j. h (suc j)))

  none_by : (b : Due) (j i : ℕ) (part : Part) (t : Option Timer) → IsOne b j i (activity_of part i).kind None t → t ≡ None
  none_by b j i part None one = refl
  none_by b j i part (Some t) one = absurd one

  row_only : (b : Due) (j : ℕ) (part : Part) (r q : Row) → ((i : ℕ) → slice_index_or r.timers i None ≡ None) → RowAgrees b j part (kept_bare r) q → q ≡ r
  row_only b j part r q none is =
      let timers : q.timers ≡ r.timers
      = timers_only q.timers r.timers (is.long ∙ length-map r.timers (λ (t : Option Timer). (let o : Option KeptTimer = None in o)))
      (λ i. none_by b j i part (slice_index_or q.timers i None) (subst (λ (x : Option KeptTimer). IsOne b j i (activity_of part i).kind x (slice_index_or q.timers i None)) (bare_none r.timers i) (is.timers i))) none in
      ap (λ (ts : List (Option Timer)). (let x : Row = record { timers = ts; delays = q.delays; cases = q.cases } in x)) timers
      ∙ (ap (λ (ns : List ℕ). (let x : Row = record { timers = r.timers; delays = ns; cases = q.cases } in x)) is.delays
      ∙ ap (λ (ns : List ℕ). (let x : Row = record { timers = r.timers; delays = r.delays; cases = ns } in x)) is.cases)

  pub opening_only : (s : State) → StateAgrees network kept s → s ≡ opening
  opening_only s within =
      let rows : s.rows ≡ opening.rows
      = rows_only s.rows opening.rows (within.rows.long ∙ length-map opening.rows kept_bare)
      (λ j. row_only (bound_of kept) j (part_at network j) (row_at opening.rows j) (row_at s.rows j) (blank_none still 0 still.parts j)
      (subst (λ (x : KeptRow). RowAgrees (bound_of kept) j (part_at network j) x (row_at s.rows j)) (bare_at opening.rows j) (within.rows.each j))) in
      within.same ∙ ap (with_rows kept) rows
