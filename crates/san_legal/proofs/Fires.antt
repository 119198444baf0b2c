-- A timer fires, and the rows before and after: what is kept, and those of runs.
use Rattle.std.proofs.Common.{ℕ, zero, suc, ◌≤◌, ◌<◌, ◌≡◌, ◌⊎◌, ◌∙◌, inl, inr, ap, sym, subst, refl, arith, List, [], ◌∷◌, length, map, Option, Some, None, slice_index_or, slice_set}
use Rattle.std.proofs.lemmas.Bool.{cases_eq}
use Rattle.std.proofs.lemmas.List.{get_or-set_other, get_or-set_same, length-set, set-get_or, set-set}
use Rattle.san_law.proofs.Firsts.{is_before_all, none_is_first}
use Rattle.san_law.specs.Activity.{ActKind, activity_of}
use Rattle.san_law.specs.First.{BeforeAll, due_of, timer_at}
use Rattle.san_law.specs.Net.{Row, Timer, least_timer, no_row, without_timer}
use Rattle.san_law.specs.Network.{Network, part_at}
use Rattle.san_law.specs.Renewal.{Due, least_from}
use Rattle.san_legal.specs.Kept.{RowsAgree, IsLater, IsOne, RowAgrees, KeptTimer, KeptRow, MayBeDue, kept_at, no_kept, timer_of}
use Rattle.san_legal.specs.KeptSteps.{kept_without}
use Rattle.san_legal.proofs.Firing.{kept_there, put_back, row_back, row_lowered, row_raised, row_there, row_without, timer_there}
use Rattle.san_legal.proofs.RowLemmas.{row_at}

pub kept_row_there : (xs : List KeptRow) (j i : ℕ) → i < length (kept_at xs j).timers → j < length xs
kept_row_there [] j i h = absurd (omega (arith, h))
kept_row_there (x ∷ xs) zero i h = omega arith
kept_row_there (x ∷ xs) (suc j) i h = let more = kept_row_there xs j i h in omega (arith, more)

same_number : (a c : ℕ) → (let o : Option ℕ = Some a in o) ≡ Some c → a ≡ c
same_number a c e = cc

due_is : (c d : Due) → c.time ≡ d.time → c.leaf ≡ d.leaf → c.act ≡ d.act → c ≡ d
due_is c d t l a =
    ap (λ (x : ℕ). (let y : Due = record { time = x; leaf = c.leaf; act = c.act } in y)) t
    ∙ (ap (λ (x : ℕ). (let y : Due = record { time = d.time; leaf = x; act = c.act } in y)) l
    ∙ ap (λ (x : ℕ). (let y : Due = record { time = d.time; leaf = d.leaf; act = x } in y)) a)

-- one that is first isn't later than another
clash : (c d : Due) → IsLater d c.leaf c.act c.time → (c.time < d.time) ⊎ ((c.time ≡ d.time) × ((c.leaf < d.leaf) ⊎ ((c.leaf ≡ d.leaf) × (c.act ≤ d.act)))) → ⊥
clash c d (inl h) (inl g) = absurd (omega (arith, h, g))
clash c d (inl h) (inr (e, g)) = absurd (omega (arith, h, e))
clash c d (inr (e, h)) (inl g) = absurd (omega (arith, e, g))
clash c d (inr (e, inl h)) (inr (f, inl g)) = absurd (omega (arith, h, g))
clash c d (inr (e, inl h)) (inr (f, inr (l, g))) = absurd (omega (arith, h, l))
clash c d (inr (e, inr (m, h))) (inr (f, inl g)) = absurd (omega (arith, m, g))
clash c d (inr (e, inr (m, h))) (inr (f, inr (l, g))) = absurd (omega (arith, h, g))

module _ (network : Network) (b d : Due) (xs : List KeptRow) where
  abbrev pub kept_left : List KeptRow
  kept_left = slice_set xs d.leaf (kept_without (kept_at xs d.leaf) d.act)

  abbrev pub left_of : List Row → List Row
  left_of rows = slice_set rows d.leaf (without_timer (row_at rows d.leaf) d.act)

  abbrev kind_at : ℕ → ℕ → ActKind
  kind_at j i = (activity_of (part_at network j) i).kind

  -- ---- forward

  pub record Fired (rows : List Row) : Type 0 where
    pub timer : KeptTimer
    pub runs : timer_of (kept_at xs d.leaf) d.act ≡ Some timer
    pub due : MayBeDue b d.leaf d.act (kind_at d.leaf d.act) timer d.time
    pub left : RowsAgree network d kept_left (left_of rows)

  found : (x : Option KeptTimer) (t : Option Timer) → timer_of (kept_at xs d.leaf) d.act ≡ x → due_of t ≡ Some d.time → IsOne b d.leaf d.act (kind_at d.leaf d.act) x t
      → (y : KeptTimer) × (timer_of (kept_at xs d.leaf) d.act ≡ Some y) × MayBeDue b d.leaf d.act (kind_at d.leaf d.act) y d.time
  found x None is due one = absurd cc
  found None (Some t) is due one = absurd one
  found (Some y) (Some t) is due one = (y, is, subst (MayBeDue b d.leaf d.act (kind_at d.leaf d.act) y) (same_number t.due d.time due) one.1)

  module _ (rows : List Row) (are : RowsAgree network b xs rows) (is : least_from 0 (map least_timer rows) ≡ Some d) where
    before : (j i : ℕ) → BeforeAll d j i (timer_at rows j i)
    before = (is_before_all rows d is).1

    inside : d.leaf < length rows
    inside = by_timer (timer_at rows d.leaf d.act) refl (is_before_all rows d is).0
      where
        by_timer : (t : Option Timer) → timer_at rows d.leaf d.act ≡ t → due_of t ≡ Some d.time → d.leaf < length rows
        by_timer None e f = absurd cc
        by_timer (Some t) e f = row_there rows d.leaf d.act (timer_there (row_at rows d.leaf).timers d.act t e)

    left_each : (j : ℕ) → RowAgrees d j (part_at network j) (kept_at kept_left j) (row_at (left_of rows) j)
    left_each j = by_leaf (cases_eq j d.leaf)
      where
        here : RowAgrees d d.leaf (part_at network d.leaf) (kept_at kept_left d.leaf) (row_at (left_of rows) d.leaf)
        here =
            subst (λ (x : KeptRow). RowAgrees d d.leaf (part_at network d.leaf) x (row_at (left_of rows) d.leaf)) (sym (get_or-set_same xs d.leaf (kept_without (kept_at xs d.leaf) d.act) no_kept (omega (arith, inside, are.long))))
            (subst (λ (r : Row). RowAgrees d d.leaf (part_at network d.leaf) (kept_without (kept_at xs d.leaf) d.act) r) (sym (get_or-set_same rows d.leaf (without_timer (row_at rows d.leaf) d.act) no_row inside))
            (row_without b d d.leaf (part_at network d.leaf) (kept_at xs d.leaf) (row_at rows d.leaf) (before d.leaf) (are.each d.leaf)))

        by_leaf : (j ≡ d.leaf) ⊎ (j ≡ d.leaf → ⊥) → RowAgrees d j (part_at network j) (kept_at kept_left j) (row_at (left_of rows) j)
        by_leaf (inl e) = subst (λ (l : ℕ). RowAgrees d l (part_at network l) (kept_at kept_left l) (row_at (left_of rows) l)) (sym e) here
        by_leaf (inr n) =
            subst (λ (x : KeptRow). RowAgrees d j (part_at network j) x (row_at (left_of rows) j)) (sym (get_or-set_other xs d.leaf j (kept_without (kept_at xs d.leaf) d.act) no_kept n))
            (subst (λ (r : Row). RowAgrees d j (part_at network j) (kept_at xs j) r) (sym (get_or-set_other rows d.leaf j (without_timer (row_at rows d.leaf) d.act) no_row n))
            (row_raised b d j (part_at network j) (kept_at xs j) (row_at rows j) n (before j) (are.each j)))

    pub fires : Fired rows
    fires =
        let f = found (timer_of (kept_at xs d.leaf) d.act) (timer_at rows d.leaf d.act) refl (is_before_all rows d is).0 ((are.each d.leaf).timers d.act) in
        record {
          timer = f.0;
          runs = f.1;
          due = f.2;
          left = record { long = length-set rows d.leaf (without_timer (row_at rows d.leaf) d.act) ∙ (are.long ∙ sym (length-set xs d.leaf (kept_without (kept_at xs d.leaf) d.act))); each = left_each };
        }

  -- ---- back

  pub record PutBack (lefts : List Row) : Type 0 where
    pub rows : List Row
    pub are : RowsAgree network b xs rows
    pub first : least_from 0 (map least_timer rows) ≡ Some d
    pub left : left_of rows ≡ lefts

  module _ (y : KeptTimer) (runs : timer_of (kept_at xs d.leaf) d.act ≡ Some y) (may : MayBeDue b d.leaf d.act (kind_at d.leaf d.act) y d.time) (lefts : List Row) (are : RowsAgree network d kept_left lefts) where
    abbrev r2 : Row
    r2 = row_at lefts d.leaf

    abbrev r1 : Row
    r1 = put_back b d d.leaf (part_at network d.leaf) y r2

    abbrev rows : List Row
    rows = slice_set lefts d.leaf r1

    kept_inside : d.leaf < length xs
    kept_inside = kept_row_there xs d.leaf d.act (kept_there (kept_at xs d.leaf).timers d.act y runs)

    lefts_inside : d.leaf < length lefts
    lefts_inside = omega (arith, kept_inside, are.long, length-set xs d.leaf (kept_without (kept_at xs d.leaf) d.act))

    same_row : row_at rows d.leaf ≡ r1
    same_row = get_or-set_same lefts d.leaf r1 no_row lefts_inside

    without_here : RowAgrees d d.leaf (part_at network d.leaf) (kept_without (kept_at xs d.leaf) d.act) r2
    without_here = subst (λ (x : KeptRow). RowAgrees d d.leaf (part_at network d.leaf) x r2) (get_or-set_same xs d.leaf (kept_without (kept_at xs d.leaf) d.act) no_kept kept_inside) (are.each d.leaf)

    each : (j : ℕ) → RowAgrees b j (part_at network j) (kept_at xs j) (row_at rows j)
    each j = by_leaf (cases_eq j d.leaf)
      where
        here : RowAgrees b d.leaf (part_at network d.leaf) (kept_at xs d.leaf) (row_at rows d.leaf)
        here =
            subst (λ (r : Row). RowAgrees b d.leaf (part_at network d.leaf) (kept_at xs d.leaf) r) (sym same_row)
            (row_back b d d.leaf (part_at network d.leaf) (kept_at xs d.leaf) y r2 runs may may.later without_here)

        by_leaf : (j ≡ d.leaf) ⊎ (j ≡ d.leaf → ⊥) → RowAgrees b j (part_at network j) (kept_at xs j) (row_at rows j)
        by_leaf (inl e) = subst (λ (l : ℕ). RowAgrees b l (part_at network l) (kept_at xs l) (row_at rows l)) (sym e) here
        by_leaf (inr n) =
            subst (λ (r : Row). RowAgrees b j (part_at network j) (kept_at xs j) r) (sym (get_or-set_other lefts d.leaf j r1 no_row n))
            (row_lowered b d j (part_at network j) (kept_at xs j) (row_at lefts j) may.later
            (subst (λ (x : KeptRow). RowAgrees d j (part_at network j) x (row_at lefts j)) (get_or-set_other xs d.leaf j (kept_without (kept_at xs d.leaf) d.act) no_kept n) (are.each j)))

    -- the timers that are left are later
    later_by : (j i : ℕ) (x : Option KeptTimer) (t : Timer) → IsOne d j i (kind_at j i) x (Some t) → IsLater d j i t.due
    later_by j i None t one = absurd one
    later_by j i (Some x) t one = one.1.later

    left_later : (j i : ℕ) (t : Timer) → timer_at lefts j i ≡ Some t → IsLater d j i t.due
    left_later j i t e = later_by j i (timer_of (kept_at kept_left j) i) t (subst (λ (o : Option Timer). IsOne d j i (kind_at j i) (timer_of (kept_at kept_left j) i) o) e ((are.each j).timers i))

    here_timer : timer_at rows d.leaf d.act ≡ Some (record { due = d.time; held = y.held })
    here_timer =
        ap (λ (r : Row). slice_index_or r.timers d.act None) same_row
        ∙ get_or-set_same r2.timers d.act (Some (record { due = d.time; held = y.held })) None (let at = kept_there (kept_at xs d.leaf).timers d.act y runs in omega (arith, at, without_here.long, length-set (kept_at xs d.leaf).timers d.act None))

    other_timer : (j i : ℕ) → ((j ≡ d.leaf) × (i ≡ d.act) → ⊥) → timer_at rows j i ≡ timer_at lefts j i
    other_timer j i other = by_leaf (cases_eq j d.leaf)
      where
        by_act : j ≡ d.leaf → (i ≡ d.act) ⊎ (i ≡ d.act → ⊥) → timer_at rows j i ≡ timer_at lefts j i
        by_act e (inl s) = absurd (other (e, s))
        by_act e (inr n) =
            ap (λ (l : ℕ). timer_at rows l i) e
            ∙ (ap (λ (r : Row). slice_index_or r.timers i None) same_row
            ∙ (get_or-set_other r2.timers d.act i (Some (record { due = d.time; held = y.held })) None n
            ∙ sym (ap (λ (l : ℕ). timer_at lefts l i) e)))

        by_leaf : (j ≡ d.leaf) ⊎ (j ≡ d.leaf → ⊥) → timer_at rows j i ≡ timer_at lefts j i
        by_leaf (inl e) = by_act e (cases_eq i d.act)
        by_leaf (inr n) = ap (λ (r : Row). slice_index_or r.timers i None) (get_or-set_other lefts d.leaf j r1 no_row n)

    -- so that this one is the first
    module _ (c : Due) (e : least_from 0 (map least_timer rows) ≡ Some c) where
      before_here : (c.time < d.time) ⊎ ((c.time ≡ d.time) × ((c.leaf < d.leaf) ⊎ ((c.leaf ≡ d.leaf) × (c.act ≤ d.act))))
      before_here = subst (BeforeAll c d.leaf d.act) here_timer ((is_before_all rows c e).1 d.leaf d.act)

      other_is : ((c.leaf ≡ d.leaf) × (c.act ≡ d.act) → ⊥) → (t : Option Timer) → timer_at rows c.leaf c.act ≡ t → due_of t ≡ Some c.time → ⊥
      other_is other None is due = cc
      other_is other (Some t) is due =
          let later = left_later c.leaf c.act t (sym (other_timer c.leaf c.act other) ∙ is) in
          clash c d (subst (IsLater d c.leaf c.act) (same_number t.due c.time due) later) before_here

      it_is : c.leaf ≡ d.leaf → c.act ≡ d.act → c ≡ d
      it_is l a =
          let due : due_of (timer_at rows c.leaf c.act) ≡ Some d.time = ap (λ (j : ℕ). due_of (timer_at rows j c.act)) l ∙ (ap (λ (i : ℕ). due_of (timer_at rows d.leaf i)) a ∙ ap due_of here_timer) in
          due_is c d (same_number c.time d.time (sym (is_before_all rows c e).0 ∙ due)) l a

      c_is : c ≡ d
      c_is = by_leaf (cases_eq c.leaf d.leaf) (cases_eq c.act d.act)
        where
          by_leaf : (c.leaf ≡ d.leaf) ⊎ (c.leaf ≡ d.leaf → ⊥) → (c.act ≡ d.act) ⊎ (c.act ≡ d.act → ⊥) → c ≡ d
          by_leaf (inl l) (inl a) = it_is l a
          by_leaf (inr n) a = absurd (other_is (λ same. n same.0) (timer_at rows c.leaf c.act) refl (is_before_all rows c e).0)
          by_leaf (inl l) (inr n) = absurd (other_is (λ same. n same.1) (timer_at rows c.leaf c.act) refl (is_before_all rows c e).0)

    first_by : (o : Option Due) → least_from 0 (map least_timer rows) ≡ o → o ≡ Some d
    first_by None e = let none = none_is_first rows e d.leaf d.act in let bad : (let o : Option Timer = None in o) ≡ Some (record { due = d.time; held = y.held }) = sym none ∙ here_timer in absurd cc
    first_by (Some c) e = ap (λ (x : Due). (let o : Option Due = Some x in o)) (c_is c e)

    -- and it leaves the others
    no_timer : (t : Option Timer) → slice_index_or r2.timers d.act None ≡ t → t ≡ None
    no_timer t e = by_kept (timer_of (kept_without (kept_at xs d.leaf) d.act) d.act) refl
      where
        none : timer_of (kept_without (kept_at xs d.leaf) d.act) d.act ≡ None
        none = get_or-set_same (kept_at xs d.leaf).timers d.act None None (kept_there (kept_at xs d.leaf).timers d.act y runs)

        by_one : (t : Option Timer) → IsOne d d.leaf d.act (kind_at d.leaf d.act) None t → t ≡ None
        by_one None one = refl
        by_one (Some t) one = absurd one

        by_kept : (x : Option KeptTimer) → timer_of (kept_without (kept_at xs d.leaf) d.act) d.act ≡ x → t ≡ None
        by_kept x is =
            by_one t (subst (λ (o : Option Timer). IsOne d d.leaf d.act (kind_at d.leaf d.act) None o) e
            (subst (λ (z : Option KeptTimer). IsOne d d.leaf d.act (kind_at d.leaf d.act) z (slice_index_or r2.timers d.act None)) none (without_here.timers d.act)))

    row_left : without_timer r1 d.act ≡ r2
    unfolding without_timer
    row_left =
        let some : Option Timer = Some (record { due = d.time; held = y.held }) in
        let none : slice_index_or r2.timers d.act None ≡ None = no_timer (slice_index_or r2.timers d.act None) refl in
        ap (λ (ts : List (Option Timer)). (let r : Row = record { timers = ts; delays = r2.delays; cases = r2.cases } in r))
        (set-set r2.timers d.act some None ∙ (ap (slice_set r2.timers d.act) (sym none) ∙ set-get_or r2.timers d.act None))

    left_is : left_of rows ≡ lefts
    left_is =
        ap (λ (r : Row). slice_set rows d.leaf (without_timer r d.act)) same_row
        ∙ (ap (slice_set rows d.leaf) row_left
        ∙ (set-set lefts d.leaf r1 r2 ∙ set-get_or lefts d.leaf no_row))

    pub put : PutBack lefts
    put = record {
      rows = rows;
      are = record { long = length-set lefts d.leaf r1 ∙ (are.long ∙ length-set xs d.leaf (kept_without (kept_at xs d.leaf) d.act)); each = each };
      first = first_by (least_from 0 (map least_timer rows)) refl;
      left = left_is;
    }
