-- A step with draws, from a state that agrees with what is kept: its event or ending may come, and what it leaves agrees with what is kept then.
use Rattle.std.proofs.Common.{ℕ, zero, suc, ◌+◌, ◌≤◌, ◌<◌, ◌≡◌, ◌⊎◌, ◌∙◌, inl, inr, ap, sym, subst, refl, arith, List, length, map, Option, Some, None, Result, Ok, Err, Bool, true, false, nat_le, nat_lt, cond}
use Rattle.std.specs.Prelude.{slice_index}
use Rattle.std.proofs.lemmas.Bool.{leb-false, leb-true}
use Rattle.san_base.specs.declared.ending.Trap.{Trap}
use Rattle.san_law.proofs.Firsts.{is_before_all, none_is_first}
use Rattle.san_law.specs.Activity.{Effected, Part, activity_of, case_stream, done_by}
use Rattle.san_law.specs.First.{BeforeAll, timer_at}
use Rattle.san_law.specs.Net.{Local, Net, Row, Timer, least_timer}
use Rattle.san_law.specs.Network.{Limits, Network, net_of, part_at}
use Rattle.san_law.specs.Next.{Completes, Next, Stable, TrapsAt, found_at, last_first, next_instant, next_of, scan}
use Rattle.san_law.specs.Renewal.{AllFresh, Due, FaultAt, Renewal, least_from, renewed_from}
use Rattle.san_law.specs.State.{State, local_of}
use Rattle.san_law.specs.Step.{End, Ending, Events, Happened, Over, Stepped, Trapped, Unstable, at_due, at_next, at_rest, complete, count_limit, events_left, fire, fired, limit_at, limit_by, step, unless_over}
use Rattle.san_legal.specs.Draws.{AreDraws}
use Rattle.san_legal.specs.Endings.{HasAfter, MayEnd, MayTrap}
use Rattle.san_legal.specs.Kept.{RowsAgree, IsOne, StateAgrees, KeptTimer, KeptState, bound_of, kept_at, timer_of, with_rows}
use Rattle.san_legal.specs.KeptSteps.{kept_completed, kept_renewed, row_in, state_in, undrawn}
use Rattle.san_legal.specs.Legal.{IsDone, RenewsTo, MayCome, MayFire, event_by, fired_at}
use Rattle.san_legal.proofs.Chosen.{done_rows, have_some}
use Rattle.san_legal.proofs.Fires.{fires, kept_left, left_of}
use Rattle.san_legal.proofs.KeptRows.{AllDelays, AreSizedKept, RenewalAlike, alike_rows, renewal_alike}
use Rattle.san_legal.proofs.StepLemmas.{next_again}

-- ---- the next instantaneous activity, whatever the draws and the timers

module _ (net : Net) (k : KeptState) (rows olds : List Row) where
  scan_rows : (j n : ℕ) → scan net (with_rows k rows) j n ≡ scan net (with_rows k olds) j n
  scan_rows j zero = refl
  scan_rows j (suc n) = ap (found_at j (next_of net (with_rows k olds) j)) (scan_rows (suc j) n)

  last_rows : (o : Option ℕ) → last_first net (with_rows k rows) o (scan net (with_rows k rows) 0 (length net.parts)) ≡ last_first net (with_rows k olds) o (scan net (with_rows k olds) 0 (length net.parts))
  last_rows None = scan_rows 0 (length net.parts)
  last_rows (Some j) = ap (found_at j (next_of net (with_rows k olds) j)) (scan_rows 0 (length net.parts))

  next_rows : next_instant net (with_rows k rows) ≡ next_instant net (with_rows k olds)
  unfolding next_instant
  next_rows = last_rows k.last

pub next_any : (network : Network) (limits : Limits) (draw : ℕ → ℕ → ℕ) (k : KeptState) (rows : List Row) → next_instant (net_of draw network limits) (with_rows k rows) ≡ next_instant (undrawn network limits) (state_in k)
next_any network limits draw k rows =
    next_again network limits (λ s n. 0) draw (with_rows k rows) ∙ next_rows (undrawn network limits) k rows (map row_in k.rows)

-- ---- limits

pub count_ends : (limit count : ℕ) (e : Ending) → events_left limit count ≡ Some e → e ≡ Events
count_ends limit count e is = by_test (nat_lt count limit) is
  where
    by_test : (c : Bool) → cond c None (Some Events) ≡ Some e → e ≡ Events
    by_test true h = absurd cc
    by_test false h = cc

limit_ends : (most limit burst count : ℕ) (e : Ending) → limit_by most limit burst count ≡ Some e → (e ≡ Unstable) ⊎ (e ≡ Events)
limit_ends most limit burst count e is = by_test (nat_lt burst most) is
  where
    unstable : (let o : Option Ending = Some Unstable in o) ≡ Some e → e ≡ Unstable
    unstable h = cc

    by_test : (c : Bool) → cond c (events_left limit count) (Some Unstable) ≡ Some e → (e ≡ Unstable) ⊎ (e ≡ Events)
    by_test true h = inr (count_ends limit count e h)
    by_test false h = inl (unstable h)

-- ---- judged

-- an event or an ending may come, and what is left agrees with what is kept
abbrev pub Judged : Network → Limits → KeptState → Stepped → State → Type 0
Judged network limits k (Happened e) t = (next : KeptState) × MayCome network limits k e next × StateAgrees network next t
Judged network limits k (Over time ending) t = MayEnd network limits k time ending

module _ (network : Network) (limits : Limits) (draw : ℕ → ℕ → ℕ) (words : AreDraws draw) where
  abbrev net : Net
  net = net_of draw network limits

  abbrev still : Net
  still = undrawn network limits

  -- a completion: it traps, or what it leaves agrees
  module _ (k : KeptState) (rows : List Row) (are : RowsAgree network (bound_of k) k.rows rows) (burst j i : ℕ) (P : Stepped → State → Type 0)
      (trapped : (trap : Trap) → MayTrap network limits k j i trap → P (Over k.time (Trapped j i trap)) (with_rows k rows))
      (happened : (effect : Effected) → IsDone network limits k j i effect → (t : State) → StateAgrees network (kept_completed still k burst j i effect.values) t → P (Happened (event_by network k.time j i effect)) t) where
    abbrev part : Part
    part = part_at network j

    abbrev l : Local
    l = local_of net (with_rows k rows) j

    abbrev u : ℕ
    u = draw (case_stream part i) (slice_index l.row.cases i)

    by_effect : (r : Result Effected Trap) → (activity_of part i).complete u l.values ≡ r
        → P (complete net (with_rows k rows) burst j i (done_by l.row i (activity_of part i) r)).0 (complete net (with_rows k rows) burst j i (done_by l.row i (activity_of part i) r)).1
    by_effect (Err trap) is = trapped trap (record { draw = u; word = words (case_stream part i) (slice_index l.row.cases i); is = is })
    by_effect (Ok effect) is =
        let x : Stepped × State = complete net (with_rows k rows) burst j i (done_by l.row i (activity_of part i) (Ok effect)) in
        happened effect (record { draw = u; word = words (case_stream part i) (slice_index l.row.cases i); is = is }) x.1
        (record { same = refl; rows = done_rows network (bound_of k) k.rows j i rows are })

    completion : P (complete net (with_rows k rows) burst j i (net.done j i l)).0 (complete net (with_rows k rows) burst j i (net.done j i l)).1
    completion = by_effect ((activity_of part i).complete u l.values) refl

  module _ (free : AllDelays network) (k : KeptState) (sized : AreSizedKept network k.rows) (rows : List Row) (are : RowsAgree network (bound_of k) k.rows rows) where
    abbrev s : State
    s = with_rows k rows

    abbrev JudgedTo : Stepped × State → Type 0
    JudgedTo x = Judged network limits k x.0 x.1

    -- an instantaneous completion
    instant_by : (j i : ℕ) → next_instant still (state_in k) ≡ Completes j i → (o : Option Ending) → limit_at still k.burst k.count ≡ o
        → JudgedTo (unless_over s o (complete net s (k.burst + 1) j i (net.done j i (local_of net s j))))
    instant_by j i next None limit =
        completion k rows are (k.burst + 1) j i (Judged network limits k)
        (λ trap traps. inl (refl, inr (inr (record { next = next; limit = limit; traps = traps }))))
        (λ effect done t within. (kept_completed still k (k.burst + 1) j i effect.values, inl (record { next = next; limit = limit; effect = effect; done = done; event = refl; left = refl }), within))
    instant_by j i next (Some e) limit = by_end (limit_ends limits.burst limits.events k.burst k.count e limit)
      where
        stopped : (f : Ending) → e ≡ f → limit_at still k.burst k.count ≡ Some f
        stopped f same = limit ∙ ap (λ (x : Ending). (let o : Option Ending = Some x in o)) same

        by_end : (e ≡ Unstable) ⊎ (e ≡ Events) → MayEnd network limits k k.time e
        by_end (inl same) = subst (MayEnd network limits k k.time) (sym same) (refl, record { leaf = j; act = i; next = next; limit = stopped Unstable same })
        by_end (inr same) = subst (MayEnd network limits k k.time) (sym same) (inl (refl, record { leaf = j; act = i; next = next; limit = stopped Events same }))

    module _ (next : next_instant still (state_in k) ≡ Stable) (fs : List Row) (renewed : renewed_from still (state_in k) 0 (map row_in k.rows) ≡ AllFresh fs)
        (gs : List Row) (now : RowsAgree network (bound_of k) (kept_renewed still k fs) gs) where
      resting : RenewsTo network limits k fs
      resting = record { next = next; renewed = renewed }

      -- a timer fires
      fired_by : (d : Due) → MayFire network limits k fs d → RowsAgree network d (kept_left network (bound_of k) d (kept_renewed still k fs)) (left_of network (bound_of k) d (kept_renewed still k fs) gs)
          → (o : Option Ending) → count_limit still k.count ≡ o
          → JudgedTo (unless_over (fired net s gs d) o (complete net (fired net s gs d) 0 d.leaf d.act (net.done d.leaf d.act (local_of net (fired net s gs d) d.leaf))))
      fired_by d may left None limit =
          completion (fired_at network limits k fs d) (left_of network (bound_of k) d (kept_renewed still k fs) gs) left 0 d.leaf d.act (Judged network limits k)
          (λ trap traps. inr (record { rows = fs; fires = may; limit = limit; traps = traps }))
          (λ effect done t within. (kept_completed still (fired_at network limits k fs d) 0 d.leaf d.act effect.values, inr (record { rows = fs; fires = may; limit = limit; effect = effect; done = done; event = refl; left = refl }), within))
      fired_by d may left (Some e) limit =
          let same : e ≡ Events = count_ends limits.events k.count e limit in
          subst (MayEnd network limits k d.time) (sym same) (inr (record { rows = fs; due = d; fires = may; at = refl; limit = limit ∙ ap (λ (x : Ending). (let o : Option Ending = Some x in o)) same }))

      -- timers after the horizon
      after_one : (j i : ℕ) (x : Option KeptTimer) (t : Option Timer) → (h : (y : Timer) → t ≡ Some y → limits.horizon < y.due) → IsOne (bound_of k) j i (activity_of (part_at network j) i).kind x t → HasAfter limits.horizon (bound_of k) j i (activity_of (part_at network j) i).kind x
      after_one j i None t h one = tt
      after_one j i (Some x) None h one = absurd one
      after_one j i (Some x) (Some t) h one = (t.due, one.1, h t refl)

      waits : ((j i : ℕ) (y : Timer) → timer_at gs j i ≡ Some y → limits.horizon < y.due) → MayEnd network limits k limits.horizon End
      waits h = (refl, record { rows = fs; renewed = resting; each = λ j i. after_one j i (timer_of (kept_at (kept_renewed still k fs) j) i) (timer_at gs j i) (h j i) ((now.each j).timers i) })

      first_after : (d : Due) (j i : ℕ) (t : Option Timer) (y : Timer) → BeforeAll d j i t → t ≡ Some y → limits.horizon < d.time → limits.horizon < y.due
      first_after d j i None y h e l = absurd cc
      first_after d j i (Some t) y h e l =
          let due : t.due ≡ y.due = ap due_in e in
          by_order h due
        where
          due_in : Option Timer → ℕ
          due_in None = 0
          due_in (Some x) = x.due

          by_order : (d.time < t.due) ⊎ ((d.time ≡ t.due) × ((d.leaf < j) ⊎ ((d.leaf ≡ j) × (d.act ≤ i)))) → t.due ≡ y.due → limits.horizon < y.due
          by_order (inl g) due = omega (arith, l, g, due)
          by_order (inr g) due = omega (arith, l, g.0, due)

      due_by : (o : Option Due) → least_from 0 (map least_timer gs) ≡ o → JudgedTo (at_due net s gs o)
      due_by None is = waits (λ j i y e. (let none = none_is_first gs is j i in let bad : (let o : Option Timer = None in o) ≡ Some y = sym none ∙ e in absurd cc))
      due_by (Some d) is = by_test (nat_le d.time limits.horizon) refl
        where
          by_test : (c : Bool) → nat_le d.time limits.horizon ≡ c → JudgedTo (cond c (fire net (fired net s gs d) d.leaf d.act) (Over limits.horizon End, s))
          by_test false e = waits (λ j i y at. first_after d j i (timer_at gs j i) y ((is_before_all gs d is).1 j i) at (leb-false d.time limits.horizon e))
          by_test true e =
              let f = fires network (bound_of k) d (kept_renewed still k fs) gs now is in
              fired_by d (record { renewed = resting; timer = f.timer; runs = f.runs; due = f.due; others = have_some network d (kept_left network (bound_of k) d (kept_renewed still k fs)) (left_of network (bound_of k) d (kept_renewed still k fs) gs) f.left; within = leb-true d.time limits.horizon e })
              f.left (count_limit still k.count) refl

    rest_by : next_instant still (state_in k) ≡ Stable → (x y : Renewal) → renewed_from still (state_in k) 0 (map row_in k.rows) ≡ x → RenewalAlike network limits k free 0 k.rows x y → JudgedTo (at_rest net s y)
    rest_by next (FaultAt j i e) (FaultAt l m f) is h =
        let same : renewed_from still (state_in k) 0 (map row_in k.rows) ≡ FaultAt l m f
        = is ∙ (ap (λ (x : ℕ). FaultAt x i e) h.0 ∙ (ap (λ (x : ℕ). FaultAt l x e) h.1 ∙ ap (FaultAt l m) h.2)) in
        inl (refl, inr (inl (record { next = next; renewed = same })))
    rest_by next (FaultAt j i e) (AllFresh gs) is h = absurd h
    rest_by next (AllFresh fs) (FaultAt l m f) is h = absurd h
    rest_by next (AllFresh fs) (AllFresh gs) is h = due_by next fs is gs (alike_rows network limits k free fs gs h) (least_from 0 (map least_timer gs)) refl

    next_by : (w : Next) → next_instant still (state_in k) ≡ w → JudgedTo (at_next net s w)
    next_by Stable next = rest_by next (renewed_from still (state_in k) 0 (map row_in k.rows)) (renewed_from net s 0 rows) refl (renewal_alike network limits k free draw words rows sized are)
    next_by (TrapsAt j i trap) next = inl (refl, inl next)
    next_by (Completes j i) next = instant_by j i next (limit_at still k.burst k.count) refl

    pub step_judged : JudgedTo (step net s)
    unfolding step
    step_judged = subst (λ (w : Next). JudgedTo (at_next net s w)) (sym (next_any network limits draw k rows)) (next_by (next_instant still (state_in k)) refl)
