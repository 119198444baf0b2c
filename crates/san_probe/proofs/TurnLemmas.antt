-- What the loop of a watched run needs: its beginning, a turn, its end.
use Rattle.std.proofs.Common.{ℕ, ◌+◌, ◌-◌, ◌≤◌, ◌<◌, ◌≡◌, ◌∙◌, ap, sym, refl, subst, arith, List, [], length, Option, Some, Ok, Err, Bool, true, false, nat_lt, cond}
use Rattle.std.specs.Prelude.{ℤ, pos, ◌+ℤ◌, ◌*ℤ◌}
use Rattle.std.proofs.lemmas.Bool.{ltb-false, ltb-true}
use Rattle.san_base.specs.declared.ending.Ending.TheVariants as ending
use Rattle.san_base.specs.declared.ending.Event.{Event}
use Rattle.san_base.specs.declared.ending.Stop.{Stop}
use Rattle.san_base.specs.declared.limits.Limits.{Limits}
use Rattle.san_base.specs.declared.numbers.Tick.{Tick}
use Rattle.san_law.specs.State.{opening_state}
use Rattle.san_net.specs.Laid.{IsNetwork}
use Rattle.san_net.specs.Network.{Network}
use Rattle.san_net.specs.Tables.{importers_of}
use Rattle.san_probe.specs.inner.Progress.{ProbeStands, Watches, net_by}
use Rattle.san_probe.specs.Markings.{IsMarkingOf}
use Rattle.san_probe.specs.Watching.{sum_values, value_at, watched_by, watched_of}
use Rattle.san_probe.specs.inner.Progress.{ticks_before}
use Rattle.san_probe.specs.declared.measured.Watched.{Watched}
use Rattle.san_probe.specs.declared.measured.Watched.TheVariants.{Beyond, Stopped, Sum}
use Rattle.san_probe.proofs.ProgressLemmas.{comes_to, later, stands_first, stands_on, sum_whole, watches_on}
use Rattle.san_probe.proofs.WatchLemmas.{before_grows}
use Rattle.san_seq.proofs.PublicAnswers.{event_answered, stop_answered, end_answered}
use Rattle.san_seq.specs.FlatRun.{Run, after_step, marking_of, opening, step_of}
use Rattle.san_seq.specs.Outcomes.{stepped_of}
use Rattle.san_seq.specs.declared.steps.Stepped.TheVariants as stepped

-- no tick is before the first
pub none_before : (from to : ℕ) → 0 ≡ ticks_before from to 0
none_before from to = by_test (nat_lt 0 to) refl
  where
    by_test : (b : Bool) → nat_lt 0 to ≡ b → 0 ≡ cond b 0 to - from
    by_test true e = omega arith
    by_test false e = let k = ltb-false 0 to e in omega (arith, k)

marked_as : (places : ℕ) (n : Network) (m k : List ℕ) → places ≡ length n.initial → m ≡ k → IsMarkingOf (length n.initial) k → IsMarkingOf places m
marked_as places n m k long is h =
    subst (λ (q : ℕ). IsMarkingOf q m) (sym long) (subst (λ (x : List ℕ). IsMarkingOf (length n.initial) x) (sym is) h)

module _ (n : Network) (seed : ℕ) (limits : Limits) (net : IsNetwork n) (shared : (place : ℕ) → place < n.shared → 2 ≤ length (importers_of n.parts place))
    (private : (place : ℕ) → n.shared ≤ place → place < length n.initial → length (importers_of n.parts place) ≡ 1)
    (r : Run) (first : r ≡ opening n seed limits) (m : List ℕ) (seen : m ≡ marking_of r.run_phase) where
  abbrev first_marking : List ℕ
  first_marking = (opening_state (net_by n seed limits)).marking

  is_first : m ≡ first_marking
  is_first = seen ∙ ap (λ (x : Run). marking_of x.run_phase) first

  pub first_marked : (places : ℕ) → places ≡ length n.initial → IsMarkingOf places m
  first_marked places long = marked_as places n m first_marking long is_first (stands_first n seed limits net shared private).marking

  pub watches_first : (measure : List ℕ → ℤ) (from to : ℕ) (value : ℤ) → value ≡ measure m → Watches n seed limits measure from to r (pos 0) 0 value
  watches_first measure from to value is = record {
    events = [];
    state = opening_state (net_by n seed limits);
    stands = subst (λ (x : Run). ProbeStands n seed limits [] (opening_state (net_by n seed limits)) x 0) (sym first) (stands_first n seed limits net shared private);
    counted = ap (λ (k : ℕ). sum_values (value_at measure (net_by n seed limits) []) from k) (none_before from to);
    present = is ∙ ap measure is_first;
  }

module _ (n : Network) (seed : ℕ) (limits : Limits) (net_is : IsNetwork n) (measure : List ℕ → ℤ) (from to : ℕ) (r : Run) (sum : ℤ) (now : ℕ) (value : ℤ) (w : Watches n seed limits measure from to r sum now value) where
  -- an event
  module _ (e : Event) (tells : stepped_of (step_of r).0 ≡ stepped.Event e) where
    answered : (step_of r).0 ≡ Ok e
    answered = event_answered (step_of r).0 e tells

    pub counts_later : ticks_before from to now ≤ ticks_before from to e.time.0
    counts_later = before_grows from to now e.time.0 (later n seed limits net_is w.events w.state r now w.stands e answered)

    pub event_within : e.time.0 ≤ limits.horizon.0
    event_within = (stands_on n seed limits net_is w.events w.state r now w.stands e answered).within

    module _ (s : Run) (left : s ≡ after_step r) (m : List ℕ) (seen : m ≡ marking_of s.run_phase) where
      pub turn_marked : (places : ℕ) → places ≡ length n.initial → IsMarkingOf places m
      turn_marked places long =
          let on = stands_on n seed limits net_is w.events w.state r now w.stands e answered in
          marked_as places n m _ long (seen ∙ ap (λ (x : Run). marking_of x.run_phase) (left ∙ on.at_state)) on.marking

      pub turn_watches : (more present : ℤ) (counted ticks : ℕ) → counted ≡ ticks_before from to now → ticks ≡ ticks_before from to e.time.0
          → more ≡ sum +ℤ value *ℤ pos (ticks - counted) → present ≡ measure m → Watches n seed limits measure from to s more e.time.0 present
      turn_watches more present counted ticks a b counts reads =
          watches_on n seed limits net_is measure from to r sum now value w e s more present answered left
          (counts ∙ ap (λ (k : ℕ). sum +ℤ value *ℤ pos (k - counted)) b ∙ ap (λ (k : ℕ). sum +ℤ value *ℤ pos (ticks_before from to e.time.0 - k)) a)
          (λ t at. reads ∙ ap measure (seen ∙ ap (λ (x : Run). marking_of x.run_phase) at))

  -- the end
  abbrev all : ℤ
  all = sum_values (value_at measure (net_by n seed limits) w.events) from (to - from)

  pub turn_stopped : (why : Stop) → stepped_of (step_of r).0 ≡ stepped.Stopped why → Some (Stopped why) ≡ watched_of n seed limits measure from to
  turn_stopped why tells = comes_to n seed limits net_is w.events w.state r now w.stands measure from to (ending.Stop why) (stop_answered (step_of r).0 why tells)

  module _ (tells : stepped_of (step_of r).0 ≡ stepped.End) where
    abbrev ended : (h : Tick) × ((step_of r).0 ≡ Err (ending.End h))
    ended = end_answered (step_of r).0 tells

    pub turn_beyond : limits.horizon.0 + 1 < to → Some Beyond ≡ watched_of n seed limits measure from to
    turn_beyond h = by_test (nat_lt (limits.horizon.0 + 1) to) refl
      where
        whole : Some (watched_by all limits.horizon.0 to (ending.End ended.0)) ≡ watched_of n seed limits measure from to
        whole = comes_to n seed limits net_is w.events w.state r now w.stands measure from to (ending.End ended.0) ended.1

        by_test : (b : Bool) → nat_lt (limits.horizon.0 + 1) to ≡ b → Some Beyond ≡ watched_of n seed limits measure from to
        by_test true e = ap (λ (b : Bool). (let x : Option Watched = Some (cond b Beyond (Sum all)) in x)) (sym e) ∙ whole
        by_test false e = let k = ltb-false (limits.horizon.0 + 1) to e in absurd (omega (arith, h, k))

    pub turn_sum : (more : ℤ) (counted ticks : ℕ) → to ≤ limits.horizon.0 + 1 → counted ≡ ticks_before from to now → ticks ≡ ticks_before from to (limits.horizon.0 + 1)
        → more ≡ sum +ℤ value *ℤ pos (ticks - counted) → Some (Sum more) ≡ watched_of n seed limits measure from to
    turn_sum more counted ticks h a b counts = by_test (nat_lt (limits.horizon.0 + 1) to) refl
      where
        whole : Some (watched_by all limits.horizon.0 to (ending.End ended.0)) ≡ watched_of n seed limits measure from to
        whole = comes_to n seed limits net_is w.events w.state r now w.stands measure from to (ending.End ended.0) ended.1

        is_all : more ≡ all
        is_all = sum_whole n seed limits net_is measure from to r sum now value w more h
            (counts ∙ ap (λ (k : ℕ). sum +ℤ value *ℤ pos (k - counted)) b ∙ ap (λ (k : ℕ). sum +ℤ value *ℤ pos (ticks_before from to (limits.horizon.0 + 1) - k)) a)

        by_test : (b : Bool) → nat_lt (limits.horizon.0 + 1) to ≡ b → Some (Sum more) ≡ watched_of n seed limits measure from to
        by_test true e = let k = ltb-true (limits.horizon.0 + 1) to e in absurd (omega (arith, h, k))
        by_test false e =
            ap (λ (z : ℤ). (let x : Option Watched = Some (Sum z) in x)) is_all
            ∙ ap (λ (b : Bool). (let x : Option Watched = Some (cond b Beyond (Sum all)) in x)) (sym e)
            ∙ whole
