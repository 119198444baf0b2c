-- A timer fires: what is kept, and the timers of runs.
use Rattle.std.proofs.Common.{ℕ, zero, suc, ◌≤◌, ◌<◌, ◌≡◌, ◌⊎◌, ◌∙◌, inl, inr, ap, sym, subst, refl, arith, List, [], ◌∷◌, length, Option, Some, None, slice_index_or, slice_set}
use Rattle.std.proofs.lemmas.Bool.{cases_eq}
use Rattle.std.proofs.lemmas.List.{get_or-set_other, get_or-set_same, length-set}
use Rattle.san_law.specs.Activity.{ActKind, Part, activity_of}
use Rattle.san_law.specs.First.{BeforeAll}
use Rattle.san_law.specs.Net.{Row, Timer, without_timer}
use Rattle.san_law.specs.Renewal.{Due}
use Rattle.san_legal.specs.Kept.{IsLater, IsOne, RowAgrees, KeptTimer, KeptRow, MayBeDue, timer_of}
use Rattle.san_legal.specs.KeptSteps.{kept_without}
use Rattle.san_legal.proofs.RowLemmas.{row_at}

-- ---- numbers of lists

pub timer_there : (ts : List (Option Timer)) (i : ℕ) (t : Timer) → slice_index_or ts i None ≡ Some t → i < length ts
timer_there [] i t e = absurd cc
timer_there (x ∷ ts) zero t e = omega arith
timer_there (x ∷ ts) (suc i) t e = let more = timer_there ts i t e in omega (arith, more)

pub kept_there : (xs : List (Option KeptTimer)) (i : ℕ) (x : KeptTimer) → slice_index_or xs i None ≡ Some x → i < length xs
kept_there [] i x e = absurd cc
kept_there (y ∷ xs) zero x e = omega arith
kept_there (y ∷ xs) (suc i) x e = let more = kept_there xs i x e in omega (arith, more)

pub row_there : (rows : List Row) (j i : ℕ) → i < length (row_at rows j).timers → j < length rows
row_there [] j i h = absurd (omega (arith, h))
row_there (r ∷ rows) zero i h = omega arith
row_there (r ∷ rows) (suc j) i h = let more = row_there rows j i h in omega (arith, more)

none_left : {A : Type 0} (xs : List (Option A)) (i : ℕ) → slice_index_or (slice_set xs i None) i None ≡ None
none_left [] i = refl
none_left (x ∷ xs) zero = refl
none_left (x ∷ xs) (suc i) = none_left xs i

-- ---- later

-- all timers but one are later than it
pub later_than : (d : Due) (j i due : ℕ) → ((j ≡ d.leaf) × (i ≡ d.act) → ⊥) → (d.time < due) ⊎ ((d.time ≡ due) × ((d.leaf < j) ⊎ ((d.leaf ≡ j) × (d.act ≤ i)))) → IsLater d j i due
later_than d j i due other (inl h) = inl h
later_than d j i due other (inr (e, inl h)) = inr (e, inl h)
later_than d j i due other (inr (e, inr (l, h))) = by_act (cases_eq i d.act)
  where
    by_act : (i ≡ d.act) ⊎ (i ≡ d.act → ⊥) → IsLater d j i due
    by_act (inl s) = absurd (other (sym l, s))
    by_act (inr s) = inr (e, inr (l, omega (arith, h, s)))

later_trans : (b d : Due) (j i due : ℕ) → IsLater b d.leaf d.act d.time → IsLater d j i due → IsLater b j i due
later_trans b d j i due (inl h) (inl g) = inl (omega (arith, h, g))
later_trans b d j i due (inl h) (inr (e, g)) = inl (omega (arith, h, e))
later_trans b d j i due (inr (e, h)) (inl g) = inl (omega (arith, e, g))
later_trans b d j i due (inr (e, inl h)) (inr (f, inl g)) = inr (e ∙ f, inl (omega (arith, h, g)))
later_trans b d j i due (inr (e, inl h)) (inr (f, inr (l, g))) = inr (e ∙ f, inl (omega (arith, h, l)))
later_trans b d j i due (inr (e, inr (m, h))) (inr (f, inl g)) = inr (e ∙ f, inl (omega (arith, m, g)))
later_trans b d j i due (inr (e, inr (m, h))) (inr (f, inr (l, g))) = inr (e ∙ f, inr (m ∙ l, omega (arith, h, g)))

module _ (b d : Due) (j i : ℕ) (kind : ActKind) where
  -- under a later bound
  raised : (x : Option KeptTimer) (t : Option Timer) → ((j ≡ d.leaf) × (i ≡ d.act) → ⊥) → BeforeAll d j i t → IsOne b j i kind x t → IsOne d j i kind x t
  raised None None other h one = tt
  raised None (Some t) other h one = absurd one
  raised (Some x) None other h one = absurd one
  raised (Some x) (Some t) other h one = (one.0, record { ticks = one.1.ticks; given = one.1.given; is = one.1.is; later = later_than d j i t.due other h })

  -- under an earlier one
  lowered : (x : Option KeptTimer) (t : Option Timer) → IsLater b d.leaf d.act d.time → IsOne d j i kind x t → IsOne b j i kind x t
  lowered None None h one = tt
  lowered None (Some t) h one = absurd one
  lowered (Some x) None h one = absurd one
  lowered (Some x) (Some t) h one = (one.0, record { ticks = one.1.ticks; given = one.1.given; is = one.1.is; later = later_trans b d j i t.due h one.1.later })

-- ---- a row

module _ (b d : Due) (j : ℕ) (part : Part) where
  -- of another leaf
  pub row_raised : (x : KeptRow) (r : Row) → (j ≡ d.leaf → ⊥) → ((i : ℕ) → BeforeAll d j i (slice_index_or r.timers i None)) → RowAgrees b j part x r → RowAgrees d j part x r
  row_raised x r other h is = record {
    long = is.long;
    timers = λ i. raised b d j i (activity_of part i).kind (timer_of x i) (slice_index_or r.timers i None) (λ same. other same.0) (h i) (is.timers i);
    delays = is.delays;
    cases = is.cases;
  }

  pub row_lowered : (x : KeptRow) (r : Row) → IsLater b d.leaf d.act d.time → RowAgrees d j part x r → RowAgrees b j part x r
  row_lowered x r h is = record {
    long = is.long;
    timers = λ i. lowered b d j i (activity_of part i).kind (timer_of x i) (slice_index_or r.timers i None) h (is.timers i);
    delays = is.delays;
    cases = is.cases;
  }

  -- without the timer
  pub row_without : (x : KeptRow) (r : Row) → ((i : ℕ) → BeforeAll d j i (slice_index_or r.timers i None)) → RowAgrees b j part x r → RowAgrees d j part (kept_without x d.act) (without_timer r d.act)
  unfolding without_timer
  row_without x r h is = record {
    long = length-set r.timers d.act None ∙ (is.long ∙ sym (length-set x.timers d.act None));
    timers = each;
    delays = is.delays;
    cases = is.cases;
  }
    where
      each : (i : ℕ) → IsOne d j i (activity_of part i).kind (slice_index_or (slice_set x.timers d.act None) i None) (slice_index_or (slice_set r.timers d.act None) i None)
      each i = by_act (cases_eq i d.act)
        where
          by_act : (i ≡ d.act) ⊎ (i ≡ d.act → ⊥) → IsOne d j i (activity_of part i).kind (slice_index_or (slice_set x.timers d.act None) i None) (slice_index_or (slice_set r.timers d.act None) i None)
          by_act (inl e) =
              let no_x : slice_index_or (slice_set x.timers d.act None) i None ≡ None = ap (λ (l : ℕ). slice_index_or (slice_set x.timers d.act None) l None) e ∙ none_left x.timers d.act in
              let no_r : slice_index_or (slice_set r.timers d.act None) i None ≡ None = ap (λ (l : ℕ). slice_index_or (slice_set r.timers d.act None) l None) e ∙ none_left r.timers d.act in
              subst (λ (y : Option KeptTimer). IsOne d j i (activity_of part i).kind y (slice_index_or (slice_set r.timers d.act None) i None)) (sym no_x)
              (subst (λ (t : Option Timer). IsOne d j i (activity_of part i).kind None t) (sym no_r) tt)
          by_act (inr n) =
              subst (λ (y : Option KeptTimer). IsOne d j i (activity_of part i).kind y (slice_index_or (slice_set r.timers d.act None) i None)) (sym (get_or-set_other x.timers d.act i None None n))
              (subst (λ (t : Option Timer). IsOne d j i (activity_of part i).kind (timer_of x i) t) (sym (get_or-set_other r.timers d.act i None None n))
              (raised b d j i (activity_of part i).kind (timer_of x i) (slice_index_or r.timers i None) (λ same. n same.1) (h i) (is.timers i)))

  -- the timer put back
  abbrev pub put_back : KeptTimer → Row → Row
  put_back x r = record { timers = slice_set r.timers d.act (Some (record { due = d.time; held = x.held })); delays = r.delays; cases = r.cases }

  pub row_back : (x : KeptRow) (y : KeptTimer) (r : Row) → timer_of x d.act ≡ Some y → MayBeDue b j d.act (activity_of part d.act).kind y d.time → IsLater b d.leaf d.act d.time → RowAgrees d j part (kept_without x d.act) r → RowAgrees b j part x (put_back y r)
  row_back x y r runs may later is = record {
    long = length-set r.timers d.act (Some (record { due = d.time; held = y.held })) ∙ (is.long ∙ length-set x.timers d.act None);
    timers = each;
    delays = is.delays;
    cases = is.cases;
  }
    where
      t : Option Timer
      t = Some (record { due = d.time; held = y.held })

      inside : d.act < length r.timers
      inside = let here = kept_there x.timers d.act y runs in omega (arith, here, is.long, length-set x.timers d.act None)

      each : (i : ℕ) → IsOne b j i (activity_of part i).kind (timer_of x i) (slice_index_or (slice_set r.timers d.act (Some (record { due = d.time; held = y.held }))) i None)
      each i = by_act (cases_eq i d.act)
        where
          by_act : (i ≡ d.act) ⊎ (i ≡ d.act → ⊥) → IsOne b j i (activity_of part i).kind (timer_of x i) (slice_index_or (slice_set r.timers d.act (Some (record { due = d.time; held = y.held }))) i None)
          by_act (inl e) =
              subst (λ (l : ℕ). IsOne b j l (activity_of part l).kind (timer_of x l) (slice_index_or (slice_set r.timers d.act (Some (record { due = d.time; held = y.held }))) l None)) (sym e)
              (subst (λ (z : Option KeptTimer). IsOne b j d.act (activity_of part d.act).kind z (slice_index_or (slice_set r.timers d.act (Some (record { due = d.time; held = y.held }))) d.act None)) (sym runs)
              (subst (λ (s : Option Timer). IsOne b j d.act (activity_of part d.act).kind (Some y) s) (sym (get_or-set_same r.timers d.act (Some (record { due = d.time; held = y.held })) None inside)) (refl, may)))
          by_act (inr n) =
              subst (λ (s : Option Timer). IsOne b j i (activity_of part i).kind (timer_of x i) s) (sym (get_or-set_other r.timers d.act i (Some (record { due = d.time; held = y.held })) None n))
              (lowered b d j i (activity_of part i).kind (timer_of x i) (slice_index_or r.timers i None) later
              (subst (λ (z : Option KeptTimer). IsOne d j i (activity_of part i).kind z (slice_index_or r.timers i None)) (get_or-set_other x.timers d.act i None None n) (is.timers i)))
