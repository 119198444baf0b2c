-- The least of the leaves' least timers is before all timers.
use Rattle.std.proofs.Common.{ℕ, zero, suc, ◌<◌, ◌≤◌, ◌≡◌, ◌⊎◌, ◌∙◌, inl, inr, ap, sym, refl, subst, List, [], ◌∷◌, map, Option, Some, None, Bool, true, false, arith, nat_lt, slice_index_or, cond}
use Rattle.std.proofs.lemmas.Bool.{cases_lt}
use Rattle.san_law.specs.Net.{Row, Timer, least_timer, least_timer_from, no_row, sooner_act}
use Rattle.san_law.specs.Renewal.{Due, least_from, sooner}
use Rattle.san_law.specs.First.{BeforeAll, FirstIsBeforeAll, NoneIsFirst, due_of, timer_at}
use Rattle.san_law.specs.inner.Least.{Before, BeforeTimer, IsBefore, LeastTimerIsFirst, NoTimerIsLeast}
use Rattle.san_law.proofs.Least.{least_is_before, none_is_due}

-- a row's least timer is the least of its timers as dues
abbrev as_due : Option Timer → Option (ℕ × ℕ)
as_due None = None
as_due (Some t) = Some (t.due, 0)

abbrev as_timer : Option Due → Option (ℕ × ℕ)
as_timer None = None
as_timer (Some d) = Some (d.time, d.leaf)

sooner_same : (k x : ℕ) (o : Option Due) → as_timer (sooner (record { time = x; leaf = k; act = 0 }) o) ≡ sooner_act (x, k) (as_timer o)
sooner_same k x None = refl
sooner_same k x (Some e) = by_test (nat_lt e.time x)
  where
    by_test : (b : Bool) → as_timer (cond b (Some e) (Some (record { time = x; leaf = k; act = 0 }))) ≡ cond b (Some (e.time, e.leaf)) (Some (x, k))
    by_test true = refl
    by_test false = refl

least_same : (k : ℕ) (ts : List (Option Timer)) → as_timer (least_from k (map as_due ts)) ≡ least_timer_from k ts
least_same k [] = refl
least_same k (None ∷ ts) = least_same (suc k) ts
least_same k (Some t ∷ ts) = sooner_same k t.due (least_from (suc k) (map as_due ts)) ∙ ap (sooner_act (t.due, k)) (least_same (suc k) ts)

due_at : (ts : List (Option Timer)) (i : ℕ) → slice_index_or (map as_due ts) i None ≡ as_due (slice_index_or ts i None)
due_at [] i = refl
due_at (t ∷ ts) zero = refl
due_at (t ∷ ts) (suc i) = due_at ts i

abbrev time_of : Option (ℕ × ℕ) → Option ℕ
time_of None = None
time_of (Some x) = Some x.0

time_same : (o : Option Timer) → time_of (as_due o) ≡ due_of o
time_same None = refl
time_same (Some t) = refl

before_timer : (d : Due) (i : ℕ) (o : Option Timer) → Before d i (as_due o) → BeforeTimer d.time d.leaf i o
before_timer d i None h = tt
before_timer d i (Some t) h = h

abbrev due_in : Option (ℕ × ℕ) → ℕ
due_in None = 0
due_in (Some x) = x.0

abbrev act_in : Option (ℕ × ℕ) → ℕ
act_in None = 0
act_in (Some x) = x.1

timer_first_by : (r : Row) (due act : ℕ) (o : Option Due) → least_from 0 (map as_due r.timers) ≡ o → as_timer o ≡ Some (due, act) → (due_of (slice_index_or r.timers act None) ≡ Some due) × ((i : ℕ) → BeforeTimer due act i (slice_index_or r.timers i None))
timer_first_by r due act None e f = cc
timer_first_by r due act (Some d) e f =
    let h = least_is_before (map as_due r.timers) d e in
    let x : d.time ≡ due = ap due_in f in
    let y : d.leaf ≡ act = ap act_in f in
    subst (λ a. (due_of (slice_index_or r.timers act None) ≡ Some a) × ((i : ℕ) → BeforeTimer a act i (slice_index_or r.timers i None))) x
    (subst (λ k. (due_of (slice_index_or r.timers k None) ≡ Some d.time) × ((i : ℕ) → BeforeTimer d.time k i (slice_index_or r.timers i None))) y
    (sym (time_same (slice_index_or r.timers d.leaf None)) ∙ ap time_of (sym (due_at r.timers d.leaf) ∙ h.0), λ i. before_timer d i (slice_index_or r.timers i None) (subst (Before d i) (due_at r.timers i) (h.1 i))))

pub least_timer_is_first : (r : Row) → LeastTimerIsFirst r
unfolding least_timer
least_timer_is_first r due act e = timer_first_by r due act (least_from 0 (map as_due r.timers)) refl (least_same 0 r.timers ∙ e)

-- where there is no least timer there is none
no_due : (o : Option Timer) → as_due o ≡ None → o ≡ None
no_due None e = refl
no_due (Some t) e = cc

no_first : (o : Option Due) → as_timer o ≡ None → o ≡ None
no_first None e = refl
no_first (Some d) e = cc

pub no_timer_is_least : (r : Row) → NoTimerIsLeast r
unfolding least_timer
no_timer_is_least r e i =
    let none : least_from 0 (map as_due r.timers) ≡ None = no_first (least_from 0 (map as_due r.timers)) (least_same 0 r.timers ∙ e) in
    no_due (slice_index_or r.timers i None) (sym (due_at r.timers i) ∙ none_is_due (map as_due r.timers) none i)

-- leaves' least timers by number
least_at : (rows : List Row) (j : ℕ) → slice_index_or (map least_timer rows) j None ≡ least_timer (slice_index_or rows j no_row)
unfolding least_timer
least_at [] j = refl
least_at (r ∷ rows) zero = refl
least_at (r ∷ rows) (suc j) = least_at rows j

before_all : (d : Due) (j k x a : ℕ) (o : Option Timer) → (d.leaf ≡ j → d.act ≡ a) → IsBefore d x j → BeforeTimer x a k o → BeforeAll d j k o
before_all d j k x a None same h g = tt
before_all d j k x a (Some t) same (inl h) (inl g) = inl (omega (arith, h, g))
before_all d j k x a (Some t) same (inl h) (inr g) = inl (omega (arith, h, g.0))
before_all d j k x a (Some t) same (inr h) (inl g) = inl (omega (arith, h.0, g))
before_all d j k x a (Some t) same (inr h) (inr g) = inr (h.0 ∙ g.0, by_leaf_of (cases_lt d.leaf j))
  where
    by_leaf_of : (d.leaf < j) ⊎ (j ≤ d.leaf) → (d.leaf < j) ⊎ ((d.leaf ≡ j) × (d.act ≤ k))
    by_leaf_of (inl l) = inl l
    by_leaf_of (inr l) = let e : d.leaf ≡ j = omega (arith, h.1, l) in inr (e, omega (arith, same e, g.1))

module _ (rows : List Row) (d : Due) (is : least_from 0 (map least_timer rows) ≡ Some d) where
  h : (slice_index_or (map least_timer rows) d.leaf None ≡ Some (d.time, d.act)) × ((i : ℕ) → Before d i (slice_index_or (map least_timer rows) i None))
  h = least_is_before (map least_timer rows) d is

  own_least : least_timer (slice_index_or rows d.leaf no_row) ≡ Some (d.time, d.act)
  own_least = sym (least_at rows d.leaf) ∙ h.0

  same_act : (j x a : ℕ) → least_timer (slice_index_or rows j no_row) ≡ Some (x, a) → d.leaf ≡ j → d.act ≡ a
  same_act j x a e f = sym (ap act_in own_least) ∙ (ap (λ i. act_in (least_timer (slice_index_or rows i no_row))) f ∙ ap act_in e)

  by_least : (j k : ℕ) (o : Option (ℕ × ℕ)) → least_timer (slice_index_or rows j no_row) ≡ o → BeforeAll d j k (timer_at rows j k)
  by_least j k None e = subst (BeforeAll d j k) (sym (no_timer_is_least (slice_index_or rows j no_row) e k)) tt
  by_least j k (Some x) e = before_all d j k x.0 x.1 (timer_at rows j k) (same_act j x.0 x.1 e) (subst (Before d j) (least_at rows j ∙ e) (h.1 j)) ((least_timer_is_first (slice_index_or rows j no_row) x.0 x.1 e).1 k)

  pub is_before_all : (due_of (timer_at rows d.leaf d.act) ≡ Some d.time) × ((j k : ℕ) → BeforeAll d j k (timer_at rows j k))
  is_before_all = ((least_timer_is_first (slice_index_or rows d.leaf no_row) d.time d.act own_least).0, λ j k. by_least j k (least_timer (slice_index_or rows j no_row)) refl)

pub first_is_before_all : (rows : List Row) → FirstIsBeforeAll rows
first_is_before_all rows d is = is_before_all rows d is

pub none_is_first : (rows : List Row) → NoneIsFirst rows
none_is_first rows is j k = no_timer_is_least (slice_index_or rows j no_row) (sym (least_at rows j) ∙ none_is_due (map least_timer rows) is j) k
