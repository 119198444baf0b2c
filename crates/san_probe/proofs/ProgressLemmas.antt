-- How a run that is watched stands after a step, and what it came to.
use Rattle.std.proofs.Common.{ℕ, ◌+◌, ◌-◌, ◌≤◌, ◌<◌, ◌≡◌, ◌∙◌, ap, sym, refl, subst, arith, List, [], ◌∷◌, ◌++◌, append-nil, length, Option, Some, Result, Ok, Err, Bool, true, false, nat_lt, cond}
use Rattle.std.specs.Prelude.{ℤ, pos, ◌+ℤ◌, ◌*ℤ◌}
use Rattle.std.specs.Option.{option_map}
use Rattle.std.proofs.lemmas.Bool.{ltb-false}
use Rattle.san_base.specs.declared.ending.Ending.{Ending}
use Rattle.san_base.specs.declared.ending.Event.{Event}
use Rattle.san_base.specs.declared.limits.Limits.{Limits}
use Rattle.san_draw.specs.Key.{draw_of}
use Rattle.san_law.specs.Net.{Net}
use Rattle.san_law.specs.Standing.{AllTo}
use Rattle.san_law.specs.State.{State, opening_state}
use Rattle.san_law.specs.Step as law
use Rattle.san_law.specs.Trajectory.{Trajectory, ran_by, run, trajectory}
use Rattle.san_law.proofs.Orders.{runs_append}
use Rattle.san_law.proofs.Trajectories.{rest_is_trajectory}
use Rattle.san_net.specs.Laid.{IsNetwork}
use Rattle.san_net.specs.Network.{Network}
use Rattle.san_net.specs.Tables.{importers_of}
use Rattle.san_probe.specs.inner.Progress.{ProbeStands, Watches, net_by, run_at, sum_until}
use Rattle.san_probe.specs.Watching.{sum_values, value_at, watched_by, watched_in, watched_of}
use Rattle.san_probe.specs.inner.Progress.{ticks_before}
use Rattle.san_probe.specs.declared.measured.Watched.{Watched}
use Rattle.san_net.proofs.InitialLemmas.{initial_small}
use Rattle.san_probe.proofs.SmallLemmas.{networks_small, step_small}
use Rattle.san_probe.proofs.WatchLemmas.{watched_more}
use Rattle.san_seq.specs.FlatRun.{On, Run, after_step, step_of, opening}
use Rattle.san_net.specs.Runs.{ending_in, limits_in}
use Rattle.san_seq.specs.Reaching.{IsInTime, IsTheLaws}
use Rattle.san_seq.specs.Outcomes.{event_or_ending}
use Rattle.san_seq.proofs.ReachLemmas.{events_are_laws, events_in_time}

-- no event is later
early_on : (a b : ℕ) (es : List law.Event) (e : law.Event) → a ≤ b → e.time ≤ b → AllTo a es → AllTo b (es ++ e ∷ [])
early_on a b [] e h k early = (k, tt)
early_on a b (x ∷ es) e h k early = (omega (arith, early.0, h), early_on a b es e h k early.1)

on_same : (a b : State) → On a ≡ On b → a ≡ b
on_same a b e = cc

module _ (n : Network) (seed : ℕ) (limits : Limits) (net_is : IsNetwork n) where
  abbrev net : Net
  net = net_by n seed limits

  module _ (es : List law.Event) (s : State) (r : Run) (now : ℕ) (st : ProbeStands n seed limits es s r now) where
    module _ (e : Event) (answered : (step_of r).0 ≡ Ok e) where
      pub laws : IsTheLaws (run_at n seed limits s) s e
      laws = events_are_laws (run_at n seed limits s) s e refl (ap (λ (x : Run). (step_of x).0) (sym st.at_state) ∙ answered)

      in_time : IsInTime n net s laws.event
      in_time = events_in_time n net_is (draw_of seed) (limits_in limits) es s laws.event st.runs laws.happens

      pub time_is : laws.event.time ≡ e.time.0
      time_is = ap (λ (x : Event). x.time.0) laws.answered

      pub later : now ≤ e.time.0
      later = let a = in_time.later in let b = st.time in let c = time_is in omega (arith, a, b, c)

      pub stands_on : ProbeStands n seed limits (es ++ laws.event ∷ []) (law.step net s).1 (after_step r) e.time.0
      stands_on =
          let a = later in let b = time_is in let within = in_time.within in
          record {
            at_state = ap after_step st.at_state ∙ ap (λ g. let x : Run = record { network = n; seed = seed; limits = limits; run_phase = g } in x) laws.left;
            runs = runs_append net (opening_state net) s (law.step net s).1 es (laws.event ∷ []) st.runs (laws.happens, refl);
            early = early_on now e.time.0 es laws.event a (omega (arith, b)) st.early;
            time = in_time.present ∙ time_is;
            within = omega (arith, b, within);
            marking = step_small net (networks_small n (draw_of seed) (limits_in limits)) (length n.initial) s st.marking;
          }

    over_by : (x : law.Stepped) (e : Ending) → event_or_ending n x ≡ Err e → (time : ℕ) × (why : law.Ending) × (x ≡ law.Over time why) × (ending_in n time why ≡ e)
    over_by (law.Happened f) e answered = absurd cc
    over_by (law.Over time why) e answered = (time, why, refl, same (ending_in n time why) e answered)
      where
        same : (a b : Ending) → (let y : Result Event Ending = Err a in y) ≡ Err b → a ≡ b
        same a b q = cc

    pub comes_to : (measure : List ℕ → ℤ) (from to : ℕ) (e : Ending) → (step_of r).0 ≡ Err e
        → Some (watched_by (sum_values (value_at measure net es) from (to - from)) net.horizon to e) ≡ watched_of n seed limits measure from to
    comes_to measure from to e answered =
        let over = over_by (law.step net s).0 e (ap (λ (x : Run). (step_of x).0) (sym st.at_state) ∙ answered) in
        let last : Trajectory = record { events = []; time = over.0; ending = over.1 } in
        let here : trajectory net s ≡ Some last = ap (λ (x : law.Stepped). ran_by x (run net (net.limit - s.count)) (law.step net s).1) over.2 in
        let whole = rest_is_trajectory net (opening_state net) s es last st.runs here in
        sym (ap (option_map (watched_in n net measure from to)) whole
        ∙ ap (λ (xs : List law.Event). (let w : Option Watched = Some (watched_by (sum_values (value_at measure net xs) from (to - from)) net.horizon to (ending_in n over.0 over.1)) in w)) (append-nil es)
        ∙ ap (λ (x : Ending). (let w : Option Watched = Some (watched_by (sum_values (value_at measure net es) from (to - from)) net.horizon to x) in w)) over.3)

-- the beginning
pub stands_first : (n : Network) (seed : ℕ) (limits : Limits) → IsNetwork n → ((place : ℕ) → place < n.shared → 2 ≤ length (importers_of n.parts place))
    → ((place : ℕ) → n.shared ≤ place → place < length n.initial → length (importers_of n.parts place) ≡ 1)
    → ProbeStands n seed limits [] (opening_state (net_by n seed limits)) (opening n seed limits) 0
stands_first n seed limits net shared private = record {
  at_state = refl;
  runs = refl;
  early = tt;
  time = refl;
  within = omega arith;
  marking = record { sized = refl; values = initial_small n net shared private };
}

module _ (n : Network) (seed : ℕ) (limits : Limits) (net_is : IsNetwork n) (measure : List ℕ → ℤ) (from to : ℕ) (r : Run) (sum : ℤ) (now : ℕ) (value : ℤ) (w : Watches n seed limits measure from to r sum now value) where
  abbrev the_net : Net
  the_net = net_by n seed limits

  -- an event
  pub watches_on : (e : Event) (s : Run) (more present : ℤ) → (step_of r).0 ≡ Ok e → s ≡ after_step r
      → more ≡ sum +ℤ value *ℤ pos (ticks_before from to e.time.0 - ticks_before from to now)
      → ((t : State) → s ≡ run_at n seed limits t → present ≡ measure t.marking)
      → Watches n seed limits measure from to s more e.time.0 present
  watches_on e s more present answered left counts reads =
      let st = w.stands in
      let on = stands_on n seed limits net_is w.events w.state r now st e answered in
      let law_event = (laws n seed limits net_is w.events w.state r now st e answered).event in
      let here : ProbeStands n seed limits (w.events ++ law_event ∷ []) (law.step the_net w.state).1 s e.time.0 = subst (λ (x : Run). ProbeStands n seed limits (w.events ++ law_event ∷ []) (law.step the_net w.state).1 x e.time.0) (sym left) on in
      record {
        events = w.events ++ law_event ∷ [];
        state = (law.step the_net w.state).1;
        stands = here;
        counted =
            counts
            ∙ ap (λ x. x +ℤ value *ℤ pos (ticks_before from to e.time.0 - ticks_before from to now)) w.counted
            ∙ ap (λ v. sum_until measure the_net from to w.events now +ℤ v *ℤ pos (ticks_before from to e.time.0 - ticks_before from to now)) w.present
            ∙ watched_more measure the_net from to w.state w.events (law_event ∷ []) now e.time.0 st.runs st.early (time_is n seed limits net_is w.events w.state r now st e answered, tt) (later n seed limits net_is w.events w.state r now st e answered);
        present = reads (law.step the_net w.state).1 here.at_state;
      }

  -- the end of the horizon's tick
  all_before : to ≤ limits.horizon.0 + 1 → ticks_before from to (limits.horizon.0 + 1) ≡ to - from
  all_before h = by_test (nat_lt (limits.horizon.0 + 1) to) refl
    where
      by_test : (b : Bool) → nat_lt (limits.horizon.0 + 1) to ≡ b → cond b (limits.horizon.0 + 1) to - from ≡ to - from
      by_test true e = let k = Rattle.std.proofs.lemmas.Bool.ltb-true (limits.horizon.0 + 1) to e in absurd (omega (arith, h, k))
      by_test false e = refl

  pub sum_whole : (more : ℤ) → to ≤ limits.horizon.0 + 1 → more ≡ sum +ℤ value *ℤ pos (ticks_before from to (limits.horizon.0 + 1) - ticks_before from to now)
      → more ≡ sum_values (value_at measure the_net w.events) from (to - from)
  sum_whole more h counts =
      let st = w.stands in let within = st.within in
      counts
      ∙ ap (λ x. x +ℤ value *ℤ pos (ticks_before from to (limits.horizon.0 + 1) - ticks_before from to now)) w.counted
      ∙ ap (λ v. sum_until measure the_net from to w.events now +ℤ v *ℤ pos (ticks_before from to (limits.horizon.0 + 1) - ticks_before from to now)) w.present
      ∙ watched_more measure the_net from to w.state w.events [] now (limits.horizon.0 + 1) st.runs st.early tt (omega (arith, within))
      ∙ ap (λ (xs : List law.Event). sum_until measure the_net from to xs (limits.horizon.0 + 1)) (append-nil w.events)
      ∙ ap (sum_values (value_at measure the_net w.events) from) (all_before h)
