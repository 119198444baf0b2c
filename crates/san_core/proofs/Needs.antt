-- What an order answers, and the law's need.
use Rattle.std.proofs.Common.{ℕ, ◌+◌, ◌-◌, ◌<◌, ◌≤◌, ◌≡◌, ◌∙◌, ap, sym, refl, subst, arith, slice_index_or, length, List, Option, Some, None, Bool, true, false, cond, nat_le}
use Rattle.std.specs.Prelude.{slice_index}
use Rattle.san_law.specs.Order as law
use Rattle.san_law.specs.Order.{Finished, Needs, Order, first_true, need_due, need_going, need_of, need_stale, need_unsettled}
use Rattle.san_law.specs.Piece.{Fire, Kind, Refresh, Settle}
use Rattle.san_law.specs.Core.{Core}
use Rattle.san_law.specs.Step.{Ending}
use Rattle.san_law.specs.Net.{Net}
use Rattle.san_law.specs.Standing.{Holds}
use Rattle.san_law.specs.State.{State}
use Rattle.san_law.proofs.Flags.{first_is}
use Rattle.san_law.proofs.Least.{least_is_before}
use Rattle.san_law.proofs.Orders.{due_within}
use Rattle.san_law.specs.Renewal.{Due, least_from}
use Rattle.san_turn.specs.Needs.{need_in}
use Rattle.san_turn.specs.declared.need.Need.{Need}
use Rattle.san_core.specs.inner.Needed.{need_given}
use Rattle.san_turn.specs.declared.need.Need.TheVariants as need

-- a block and a renewal are at the order's time
abbrev AtTime : ℕ → law.Need → Type 0
AtTime now (Needs j Settle t) = t ≡ now
AtTime now (Needs j Refresh t) = t ≡ now
AtTime now (Needs j (Fire k) t) = Unit {0}
AtTime now Finished = Unit {0}

test_at : (now : ℕ) (d : Due) (b : Bool) → AtTime now (cond b (Needs d.leaf (Fire d.act) d.time) Finished)
test_at now d true = tt
test_at now d false = tt

due_at : (now horizon : ℕ) (x : Option Due) → AtTime now (need_due horizon x)
due_at now horizon None = tt
due_at now horizon (Some d) = test_at now d (nat_le d.time horizon)

stale_at : (horizon : ℕ) (o : Order) (x : Option ℕ) → AtTime o.time (need_stale horizon o x)
stale_at horizon o None = due_at o.time horizon (least_from 0 o.dues)
stale_at horizon o (Some j) = refl

unsettled_at : (horizon : ℕ) (o : Order) (x : Option ℕ) → AtTime o.time (need_unsettled horizon o x)
unsettled_at horizon o None = stale_at horizon o (first_true 0 o.stale)
unsettled_at horizon o (Some j) = refl

going_at : (horizon : ℕ) (o : Order) (x : Option ℕ) → AtTime o.time (need_going horizon o x)
going_at horizon o None = unsettled_at horizon o (first_true 0 o.unsettled)
going_at horizon o (Some j) = refl

pub need_at : (horizon : ℕ) (o : Order) → AtTime o.time (need_of horizon o)
unfolding need_of
need_at horizon o = going_at horizon o o.going

-- the law's need by what is answered
abbrev pub NeedIs : List ℕ → ℕ → law.Need → Need → Type 0
NeedIs firsts now x (need.Settle leaf) = x ≡ Needs leaf.0 Settle now
NeedIs firsts now x (need.Refresh leaf) = x ≡ Needs leaf.0 Refresh now
NeedIs firsts now x (need.Fire leaf act time) = (x ≡ Needs leaf.0 (Fire (act.0 - slice_index firsts leaf.0)) time.0) × (slice_index firsts leaf.0 ≤ act.0)
NeedIs firsts now x need.End = x ≡ Finished

need_by : (firsts : List ℕ) (now : ℕ) (x : law.Need) → AtTime now x → NeedIs firsts now x (need_in firsts x)
need_by firsts now (Needs j Settle t) h = ap (Needs j Settle) h
need_by firsts now (Needs j Refresh t) h = ap (Needs j Refresh) h
need_by firsts now (Needs j (Fire k) t) h = let e : k ≡ slice_index firsts j + k - slice_index firsts j = omega arith in (ap (λ (i : ℕ). Needs j (Fire i) t) e, omega arith)
need_by firsts now Finished h = refl

pub need_is : (firsts : List ℕ) (horizon : ℕ) (o : Order) (answer : Need) → answer ≡ need_in firsts (need_of horizon o) → NeedIs firsts o.time (need_of horizon o) answer
need_is firsts horizon o answer is = subst (NeedIs firsts o.time (need_of horizon o)) (sym is) (need_by firsts o.time (need_of horizon o) (need_at horizon o))

-- what is answered of a core that may have stopped
abbrev pub GivenIs : List ℕ → ℕ → law.Need → Option Ending → Need → Type 0
GivenIs firsts now x None answer = NeedIs firsts now x answer
GivenIs firsts now x (Some e) answer = answer ≡ need.End

given_by : (firsts : List ℕ) (horizon : ℕ) (o : Order) (stop : Option Ending) → GivenIs firsts o.time (need_of horizon o) stop (need_given firsts horizon o stop)
given_by firsts horizon o None = need_is firsts horizon o (need_in firsts (need_of horizon o)) refl
given_by firsts horizon o (Some e) = refl

pub given_is : (firsts : List ℕ) (horizon : ℕ) (o : Order) (stop : Option Ending) (answer : Need) → answer ≡ need_given firsts horizon o stop → GivenIs firsts o.time (need_of horizon o) stop answer
given_is firsts horizon o stop answer is = subst (GivenIs firsts o.time (need_of horizon o) stop) (sym is) (given_by firsts horizon o stop)

-- a need to fire is the leaf's least timer
abbrev leaf_or : law.Need → ℕ
leaf_or (Needs j kind t) = j
leaf_or Finished = 0

abbrev act_of : Kind → ℕ
act_of (Fire k) = k
act_of Settle = 0
act_of Refresh = 0

abbrev act_or : law.Need → ℕ
act_or (Needs j kind t) = act_of kind
act_or Finished = 0

abbrev time_or : law.Need → ℕ
time_or (Needs j kind t) = t
time_or Finished = 0

some_due : (d : Due) (b : Bool) (j k t : ℕ) → cond b (Needs d.leaf (Fire d.act) d.time) Finished ≡ Needs j (Fire k) t → (d.leaf ≡ j) × (d.act ≡ k) × (d.time ≡ t)
some_due d true j k t is = (ap leaf_or is, ap act_or is, ap time_or is)
some_due d false j k t is = absurd cc

abbrev IsLeastDue : Order → ℕ → ℕ → ℕ → Type 0
IsLeastDue o j k t = slice_index_or o.dues j None ≡ Some (t, k)

due_least : (horizon : ℕ) (o : Order) (x : Option Due) (j k t : ℕ) → least_from 0 o.dues ≡ x → need_due horizon x ≡ Needs j (Fire k) t → IsLeastDue o j k t
due_least horizon o None j k t is need = absurd cc
due_least horizon o (Some d) j k t is need =
    let e = some_due d (nat_le d.time horizon) j k t need in
    let at = (least_is_before o.dues d is).0 in
    ap (λ (i : ℕ). slice_index_or o.dues i None) (sym e.0) ∙ (at ∙ (ap (λ (i : ℕ). Some (i, d.act)) e.2 ∙ ap (λ (i : ℕ). Some (t, i)) e.1))

stale_least : (horizon : ℕ) (o : Order) (x : Option ℕ) (j k t : ℕ) → need_stale horizon o x ≡ Needs j (Fire k) t → IsLeastDue o j k t
stale_least horizon o None j k t is = due_least horizon o (least_from 0 o.dues) j k t refl is
stale_least horizon o (Some i) j k t is = absurd cc

unsettled_least : (horizon : ℕ) (o : Order) (x : Option ℕ) (j k t : ℕ) → need_unsettled horizon o x ≡ Needs j (Fire k) t → IsLeastDue o j k t
unsettled_least horizon o None j k t is = stale_least horizon o (first_true 0 o.stale) j k t is
unsettled_least horizon o (Some i) j k t is = absurd cc

going_least : (horizon : ℕ) (o : Order) (x : Option ℕ) (j k t : ℕ) → need_going horizon o x ≡ Needs j (Fire k) t → IsLeastDue o j k t
going_least horizon o None j k t is = unsettled_least horizon o (first_true 0 o.unsettled) j k t is
going_least horizon o (Some i) j k t is = absurd cc

pub fire_least : (horizon : ℕ) (o : Order) (j k t : ℕ) → need_of horizon o ≡ Needs j (Fire k) t → IsLeastDue o j k t
unfolding need_of
fire_least horizon o j k t is = going_least horizon o o.going j k t is

-- the leaf of a need is there
abbrev pub Within : ℕ → law.Need → Type 0
Within n (Needs j kind t) = j < n
Within n Finished = Unit {0}

module _ (net : Net) (c : Core) (s : State) (holds : Holds net c s) (horizon : ℕ) where
  abbrev WithinHere : law.Need → Type 0
  WithinHere x = Within (length net.parts) x

  test_within : (d : Due) (b : Bool) → least_from 0 c.order.dues ≡ Some d → WithinHere (cond b (Needs d.leaf (Fire d.act) d.time) Finished)
  test_within d true is = let w = due_within c.order.dues d is in omega (arith, w, holds.sized.timers)
  test_within d false is = tt

  from_due : (x : Option Due) → least_from 0 c.order.dues ≡ x → WithinHere (need_due horizon x)
  from_due None is = tt
  from_due (Some d) is = test_within d (nat_le d.time horizon) is

  from_stale : (x : Option ℕ) → first_true 0 c.order.stale ≡ x → WithinHere (need_stale horizon c.order x)
  from_stale None is = from_due (least_from 0 c.order.dues) refl
  from_stale (Some j) is = let w = (first_is c.order.stale j is).within in omega (arith, w, holds.sized.stale)

  from_unsettled : (x : Option ℕ) → first_true 0 c.order.unsettled ≡ x → WithinHere (need_unsettled horizon c.order x)
  from_unsettled None is = from_stale (first_true 0 c.order.stale) refl
  from_unsettled (Some j) is = let w = (first_is c.order.unsettled j is).within in omega (arith, w, holds.sized.unsettled)

  from_going : (x : Option ℕ) → c.order.going ≡ x → WithinHere (need_going horizon c.order x)
  from_going None is = from_unsettled (first_true 0 c.order.unsettled) refl
  from_going (Some j) is = (holds.going j is).0

  pub need_within : WithinHere (need_of horizon c.order)
  unfolding need_of
  need_within = from_going c.order.going refl
