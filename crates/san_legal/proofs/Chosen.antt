-- Rows that agree with what is kept are there, with any of their due times; and a completion's rows.
use Rattle.std.proofs.Common.{ℕ, zero, suc, ◌+◌, ◌<◌, ◌≡◌, ◌⊎◌, ◌∙◌, inl, inr, ap, sym, subst, refl, arith, List, [], ◌∷◌, length, Option, Some, None, slice_index_or, slice_set}
use Rattle.std.specs.Prelude.{slice_index}
use Rattle.std.proofs.lemmas.Bool.{cases_eq}
use Rattle.std.proofs.lemmas.List.{get_or-set_other, get_or-set_same, length-set, set-get_or, set-set}
use Rattle.san_law.specs.Activity.{activity_of, with_case}
use Rattle.san_law.specs.First.{timer_at}
use Rattle.san_law.specs.Net.{Row, Timer, no_row}
use Rattle.san_law.specs.Network.{Network, part_at}
use Rattle.san_law.specs.Renewal.{Due}
use Rattle.san_legal.specs.Kept.{RowsAgree, HasOne, HaveSome, IsOne, RowAgrees, KeptTimer, KeptRow, kept_at, no_kept, timer_of}
use Rattle.san_legal.specs.KeptSteps.{kept_case}
use Rattle.san_legal.proofs.KeptActs.{one_of}
use Rattle.san_legal.proofs.RowLemmas.{row_at}

-- one more element
one_built : {A : Type 0} {B : Type 0} (a : A) (c : B) (P : ℕ → A → B → Type 0) (x : A) (xs : List A) → (y : B) × P 0 x y
    → (ys : List B) × (length ys ≡ length xs) × ((i : ℕ) → P (suc i) (slice_index_or xs i a) (slice_index_or ys i c))
    → (ys : List B) × (length ys ≡ suc (length xs)) × ((i : ℕ) → P i (slice_index_or (x ∷ xs) i a) (slice_index_or ys i c))
one_built a c P x xs first more = (first.0 ∷ more.0, ap suc more.1, each)
  where
    each : (i : ℕ) → P i (slice_index_or (x ∷ xs) i a) (slice_index_or (first.0 ∷ more.0) i c)
    each zero = first.1
    each (suc i) = more.2 i

-- a list by choices of its elements
list_built : {A : Type 0} {B : Type 0} (a : A) (c : B) (P : ℕ → A → B → Type 0) → ((i : ℕ) → P i a c) → (xs : List A) → ((i : ℕ) → (y : B) × P i (slice_index_or xs i a) y)
    → (ys : List B) × (length ys ≡ length xs) × ((i : ℕ) → P i (slice_index_or xs i a) (slice_index_or ys i c))
list_built a c P none [] choose = ([], refl, none)
list_built a c P none (x ∷ xs) choose = one_built a c P x xs (choose 0) (list_built a c (λ i. P (suc i)) (λ i. none (suc i)) xs (λ i. choose (suc i)))

-- rows whose timers are chosen with a further fact of each
pub record Chosen (network : Network) (b : Due) (xs : List KeptRow) (Fact : Option Timer → Type 0) : Type 0 where
  pub rows : List Row
  pub are : RowsAgree network b xs rows
  pub facts : (j i : ℕ) → Fact (timer_at rows j i)

module _ (network : Network) (b : Due) (Fact : Option Timer → Type 0) (none : Fact None) where
  abbrev Fits : ℕ → ℕ → Option KeptTimer → Option Timer → Type 0
  Fits j i x t = IsOne b j i (activity_of (part_at network j) i).kind x t × Fact t

  abbrev RowFits : ℕ → KeptRow → Row → Type 0
  RowFits j x r = RowAgrees b j (part_at network j) x r × ((i : ℕ) → Fact (slice_index_or r.timers i None))

  row_chosen : (j : ℕ) (x : KeptRow) → ((i : ℕ) → (t : Option Timer) × Fits j i (timer_of x i) t) → (r : Row) × RowFits j x r
  row_chosen j x choose =
      let ts = list_built {A = Option KeptTimer} {B = Option Timer} None None (Fits j) (λ i. (tt, none)) x.timers choose in
      (record { timers = ts.0; delays = x.delays; cases = x.cases }, (record { long = ts.1; timers = λ i. (ts.2 i).0; delays = refl; cases = refl }, λ i. (ts.2 i).1))

  none_fits : (j : ℕ) → RowFits j no_kept no_row
  none_fits j = (record { long = refl; timers = λ i. tt; delays = refl; cases = refl }, λ i. none)

  pub chosen : (xs : List KeptRow) → ((j i : ℕ) → (t : Option Timer) × Fits j i (timer_of (kept_at xs j) i) t) → Chosen network b xs Fact
  chosen xs choose =
      let rs = list_built no_kept no_row RowFits none_fits xs (λ j. row_chosen j (kept_at xs j) (choose j)) in
      record { rows = rs.0; are = record { long = rs.1; each = λ j. (rs.2 j).0 }; facts = λ j i. (rs.2 j).1 i }

-- some rows agree where each timer has a due time
pub some_rows : (network : Network) (b : Due) (xs : List KeptRow) → HaveSome network b xs → (rows : List Row) × RowsAgree network b xs rows
some_rows network b xs some =
    let c = chosen network b (λ t. Unit {0}) tt xs (λ j i. (let one = one_of b j i (activity_of (part_at network j) i).kind (timer_of (kept_at xs j) i) (some j i) in (one.0, (one.1, tt)))) in
    (c.rows, c.are)

-- and where some agree, each has one
has_one : (network : Network) (b : Due) (j i : ℕ) (x : Option KeptTimer) (t : Option Timer) → IsOne b j i (activity_of (part_at network j) i).kind x t → HasOne b j i (activity_of (part_at network j) i).kind x
has_one network b j i None t one = tt
has_one network b j i (Some x) None one = absurd one
has_one network b j i (Some x) (Some t) one = (t.due, one.1)

pub have_some : (network : Network) (b : Due) (xs : List KeptRow) (rows : List Row) → RowsAgree network b xs rows → HaveSome network b xs
have_some network b xs rows are j i = has_one network b j i (timer_of (kept_at xs j) i) (timer_at rows j i) ((are.each j).timers i)

-- ---- a completion

both_set : (P : ℕ → KeptRow → Row → Type 0) (xs : List KeptRow) (rows : List Row) → length rows ≡ length xs → ((i : ℕ) → P i (kept_at xs i) (row_at rows i)) → (j : ℕ) (x : KeptRow) (r : Row) → P j x r
    → (i : ℕ) → P i (kept_at (slice_set xs j x) i) (row_at (slice_set rows j r) i)
both_set P [] [] long all j x r new i = all i
both_set P [] (s ∷ rows) long all j x r new i = absurd (omega (arith, long))
both_set P (y ∷ xs) [] long all j x r new i = absurd (omega (arith, long))
both_set P (y ∷ xs) (s ∷ rows) long all zero x r new zero = new
both_set P (y ∷ xs) (s ∷ rows) long all zero x r new (suc i) = all (suc i)
both_set P (y ∷ xs) (s ∷ rows) long all (suc j) x r new zero = all 0
both_set P (y ∷ xs) (s ∷ rows) long all (suc j) x r new (suc i) = both_set (λ l. P (suc l)) xs rows (omega (arith, long)) (λ l. all (suc l)) j x r new i

module _ (network : Network) (b : Due) (xs : List KeptRow) (j i : ℕ) where
  abbrev pub kept_done : List KeptRow
  kept_done = slice_set xs j (kept_case (kept_at xs j) i)

  abbrev pub done_of : List Row → List Row
  done_of rows = slice_set rows j (with_case (row_at rows j) i)

  pub done_rows : (rows : List Row) → RowsAgree network b xs rows → RowsAgree network b kept_done (done_of rows)
  done_rows rows are =
      let was = are.each j in
      let now : RowAgrees b j (part_at network j) (kept_case (kept_at xs j) i) (with_case (row_at rows j) i)
      = record { long = was.long; timers = was.timers; delays = was.delays; cases = ap (λ (cs : List ℕ). slice_set cs i (slice_index cs i + 1)) was.cases } in
      record {
        long = length-set rows j (with_case (row_at rows j) i) ∙ (are.long ∙ sym (length-set xs j (kept_case (kept_at xs j) i)));
        each = both_set (λ l x r. RowAgrees b l (part_at network l) x r) xs rows are.long are.each j (kept_case (kept_at xs j) i) (with_case (row_at rows j) i) now;
      }

  -- the rows before it
  pub record NotYet (dones : List Row) : Type 0 where
    pub rows : List Row
    pub are : RowsAgree network b xs rows
    pub left : done_of rows ≡ dones

  module _ (kept_inside : j < length xs) (dones : List Row) (are : RowsAgree network b kept_done dones) where
    abbrev s2 : Row
    s2 = row_at dones j

    abbrev s1 : Row
    s1 = record { timers = s2.timers; delays = s2.delays; cases = (kept_at xs j).cases }

    inside : j < length dones
    inside = omega (arith, kept_inside, are.long, length-set xs j (kept_case (kept_at xs j) i))

    was : RowAgrees b j (part_at network j) (kept_case (kept_at xs j) i) s2
    was = subst (λ (x : KeptRow). RowAgrees b j (part_at network j) x s2) (get_or-set_same xs j (kept_case (kept_at xs j) i) no_kept kept_inside) (are.each j)

    same_row : row_at (slice_set dones j s1) j ≡ s1
    same_row = get_or-set_same dones j s1 no_row inside

    each : (l : ℕ) → RowAgrees b l (part_at network l) (kept_at xs l) (row_at (slice_set dones j s1) l)
    each l = by_leaf (cases_eq l j)
      where
        here : RowAgrees b j (part_at network j) (kept_at xs j) (row_at (slice_set dones j s1) j)
        here = subst (λ (r : Row). RowAgrees b j (part_at network j) (kept_at xs j) r) (sym same_row) (record { long = was.long; timers = was.timers; delays = was.delays; cases = refl })

        by_leaf : (l ≡ j) ⊎ (l ≡ j → ⊥) → RowAgrees b l (part_at network l) (kept_at xs l) (row_at (slice_set dones j s1) l)
        by_leaf (inl e) = subst (λ (m : ℕ). RowAgrees b m (part_at network m) (kept_at xs m) (row_at (slice_set dones j s1) m)) (sym e) here
        by_leaf (inr n) =
            subst (λ (r : Row). RowAgrees b l (part_at network l) (kept_at xs l) r) (sym (get_or-set_other dones j l s1 no_row n))
            (subst (λ (x : KeptRow). RowAgrees b l (part_at network l) x (row_at dones l)) (get_or-set_other xs j l (kept_case (kept_at xs j) i) no_kept n) (are.each l))

    row_done : with_case s1 i ≡ s2
    row_done = ap (λ (cs : List ℕ). (let r : Row = record { timers = s2.timers; delays = s2.delays; cases = cs } in r)) (sym was.cases)

    pub not_yet : NotYet dones
    not_yet = record {
      rows = slice_set dones j s1;
      are = record { long = length-set dones j s1 ∙ (are.long ∙ length-set xs j (kept_case (kept_at xs j) i)); each = each };
      left = ap (λ (r : Row). slice_set (slice_set dones j s1) j (with_case r i)) same_row
          ∙ (ap (slice_set (slice_set dones j s1) j) row_done
          ∙ (set-set dones j s1 s2 ∙ set-get_or dones j no_row));
    }
