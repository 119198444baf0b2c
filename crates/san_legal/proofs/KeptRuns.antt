-- Free runs and what is kept of them.
use Rattle.std.proofs.Common.{ℕ, zero, suc, ◌+◌, ◌-◌, ◌≡◌, ◌∙◌, inl, inr, ap, sym, subst, refl, arith, List, [], ◌∷◌, ◌++◌, length, Option, Some, None, slice_index_or, slice_set}
use Rattle.san_law.proofs.Trajectories.{has_trajectory, rest_is_trajectory}
use Rattle.san_law.specs.Activity.{Effected, activity_of}
use Rattle.san_law.specs.Net.{Net, Row}
use Rattle.san_law.specs.Network.{Limits, Network, net_of, part_at}
use Rattle.san_law.specs.Next.{Completes, Next, Stable}
use Rattle.san_law.specs.Renewal.{Due}
use Rattle.san_law.specs.State.{State, gather, opening_state, slots_of}
use Rattle.san_law.specs.Step.{Ending, Event, Happened, Over, Stepped, step}
use Rattle.san_law.specs.Trajectory.{Runs, Trajectory, followed_by, ran_by, ran_on, run, trajectory}
use Rattle.san_legal.specs.Free.{IsFreeNetwork}
use Rattle.san_legal.specs.FreeRuns.{FreeRuns, IsFreeStep, IsOfDraws}
use Rattle.san_legal.specs.Kept.{HasOne, HaveSome, StateAgrees, KeptTimer, KeptRow, KeptState, bound_of, kept_at, with_rows}
use Rattle.san_legal.specs.KeptSteps.{kept_case, kept_completed, kept_opening, undrawn}
use Rattle.san_legal.specs.Laws.{BeginsRun, IsKept, IsLegal, IsTrajectory, KeptStateIsOne, KeptStatesAreThoseOfRuns, LegalEventsAreThoseOfRuns, LegalEventsBeginRuns, LegalRunsAreThoseOfDraws, IsReached}
use Rattle.san_legal.specs.Legal.{IsDone, InstantMayCome, TimedMayCome, MayCome, MayFollow, due_in, event_by, fired_at}
use Rattle.san_legal.specs.Locality.{IsSized}
use Rattle.san_legal.proofs.Chosen.{some_rows}
use Rattle.san_legal.proofs.Finding.{Found, IsReady, ending_found, event_found}
use Rattle.san_legal.proofs.FreeLemmas.{free_by, free_runs_are_of_draws}
use Rattle.san_legal.proofs.Judging.{Judged, step_judged}
use Rattle.san_legal.proofs.KeptRows.{AllDelays, AreSizedKept}
use Rattle.san_legal.proofs.Opened.{opening_only, opening_ready, opening_same, opening_sized, opening_within}
use Rattle.san_legal.proofs.StepLemmas.{same_all, step_more, more_sized}

-- ---- sizes

sized_state : (network : Network) (k : KeptState) (s : State) → AreSizedKept network k.rows → StateAgrees network k s → IsSized network s
sized_state network k s sized within j =
    let is = within.rows.each j in
    record { timers = is.long ∙ (sized j).timers; delays = ap length is.delays ∙ (sized j).delays; cases = ap length is.cases ∙ (sized j).cases }

sized_kept : (network : Network) (k : KeptState) (s : State) → IsSized network s → StateAgrees network k s → AreSizedKept network k.rows
sized_kept network k s sized within j =
    let is = within.rows.each j in
    record { timers = sym is.long ∙ (sized j).timers; delays = sym (ap length is.delays) ∙ (sized j).delays; cases = sym (ap length is.cases) ∙ (sized j).cases }

-- a completion keeps the timers
keeps_set : (xs : List KeptRow) (j : ℕ) (x : KeptRow) → x.timers ≡ (kept_at xs j).timers → (l : ℕ) → (kept_at (slice_set xs j x) l).timers ≡ (kept_at xs l).timers
keeps_set [] j x e l = refl
keeps_set (y ∷ xs) zero x e zero = e
keeps_set (y ∷ xs) zero x e (suc l) = refl
keeps_set (y ∷ xs) (suc j) x e zero = refl
keeps_set (y ∷ xs) (suc j) x e (suc l) = keeps_set xs j x e l

some_done : (network : Network) (b : Due) (xs : List KeptRow) (j i : ℕ) → HaveSome network b xs → HaveSome network b (slice_set xs j (kept_case (kept_at xs j) i))
some_done network b xs j i some l m =
    subst (λ (ts : List (Option KeptTimer)). HasOne b l m (activity_of (part_at network l) m).kind (slice_index_or ts m None)) (sym (keeps_set xs j (kept_case (kept_at xs j) i) refl l)) (some l m)

append_none : {A : Type 0} (xs : List A) → xs ++ [] ≡ xs
append_none [] = refl
append_none {A = A} (x ∷ xs) = ap (λ (ys : List A). x ∷ ys) (append_none xs)

module _ (network : Network) (free : IsFreeNetwork network) (limits : Limits) where
  abbrev still : Net
  still = undrawn network limits

  abbrev delays : AllDelays network
  delays = λ j i. (free.each j i).delays

  -- ---- what may come leaves a ready state

  some_after : (k : KeptState) (e : Event) (after : KeptState) → IsReady network k → MayCome network limits k e after → HaveSome network (bound_of after) after.rows
  some_after k e after ready (inl is) =
      subst (λ (x : KeptState). HaveSome network (bound_of x) x.rows) (sym is.left) (some_done network (bound_of k) k.rows e.leaf e.act ready.some)
  some_after k e after ready (inr is) =
      let now : KeptState = fired_at network limits k is.rows (due_in e) in
      subst (λ (x : KeptState). HaveSome network (bound_of x) x.rows) (sym is.left) (some_done network (bound_of now) now.rows e.leaf e.act is.fires.others)

  ready_after : (k : KeptState) (e : Event) (after : KeptState) → IsReady network k → MayCome network limits k e after → IsReady network after
  ready_after k e after ready may =
      let some = some_after k e after ready may in
      let any = some_rows network (bound_of after) after.rows some in
      let t : State = with_rows after any.0 in
      let within : StateAgrees network after t = record { same = refl; rows = any.1 } in
      let found : Found network limits k (Happened e, t) = event_found network limits k ready free e after t may within in
      let net = net_of found.step.draw network limits in
      let happens : (step net found.state).0 ≡ Happened e = ap (λ (y : Stepped × State). y.0) found.step.is in
      let now : (step net found.state).1 ≡ t = ap (λ (y : Stepped × State). y.1) found.step.is in
      let before = sized_state network k found.state ready.sized found.within in
      let sized : IsSized network t = subst (IsSized network) now (more_sized network found.state (step net found.state).1 before (step_more network limits found.step.draw found.state e before happens)) in
      record { sized = sized_kept network after t sized within; some = some }

  follow_ready : (k after : KeptState) (es : List Event) → IsReady network k → MayFollow network limits k es after → IsReady network after
  follow_ready k after [] ready same = subst (IsReady network) same ready
  follow_ready k after (e ∷ es) ready may = follow_ready may.0 after es (ready_after k e may.0 ready may.1) may.2

  -- ---- forward

  step_by : (k : KeptState) (s : State) (x : Stepped × State) → IsReady network k → StateAgrees network k s → IsFreeStep network limits s x → Judged network limits k x.0 x.1
  step_by k s x ready within is =
      let net = net_of is.draw network limits in
      let same : step net (with_rows k s.rows) ≡ x = ap (step net) (sym within.same) ∙ is.is in
      subst (λ (y : Stepped × State). Judged network limits k y.0 y.1) same (step_judged network limits is.draw is.words delays k ready.sized s.rows within.rows)

  record KeptBy (k : KeptState) (es : List Event) (t : State) : Type 0 where
    after : KeptState
    follow : MayFollow network limits k es after
    within : StateAgrees network after t
    ready : IsReady network after

  run_judged : (k : KeptState) (s t : State) (es : List Event) → IsReady network k → StateAgrees network k s → FreeRuns network limits s es t → KeptBy k es t
  run_judged k s t [] ready within runs = record { after = k; follow = refl; within = subst (StateAgrees network k) runs within; ready = ready }
  run_judged k s t (e ∷ es) ready within runs =
      let now = step_by k s (Happened e, runs.0) ready within runs.1 in
      let more = run_judged now.0 runs.0 t es (ready_after k e now.0 ready now.1) now.2 runs.2 in
      record { after = more.after; follow = (now.0, now.1, more.follow); within = more.within; ready = more.ready }

  -- ---- back

  run_found : (k after : KeptState) (t : State) (es : List Event) → IsReady network k → MayFollow network limits k es after → StateAgrees network after t → (s : State) × StateAgrees network k s × FreeRuns network limits s es t
  run_found k after t [] ready same within = (t, subst (λ (x : KeptState). StateAgrees network x t) (sym same) within, refl)
  run_found k after t (e ∷ es) ready may within =
      let more = run_found may.0 after t es (ready_after k e may.0 ready may.1) may.2 within in
      let found : Found network limits k (Happened e, more.0) = event_found network limits k ready free e may.0 more.0 may.1 more.1 in
      (found.state, found.within, (more.0, found.step, more.2))

  -- ---- one kept state

  same_values : (k : KeptState) (j i time : ℕ) (f g : Effected) (e : Event) → IsDone network limits k j i f → IsDone network limits k j i g → e ≡ event_by network time j i f → e ≡ event_by network time j i g → f.values ≡ g.values
  same_values k j i time f g e a c ef eg = (free.each j i).cases a.draw c.draw (gather (slots_of still j) k.marking) f g a.is c.is (sym (ap (λ (x : Event). x.case) ef) ∙ ap (λ (x : Event). x.case) eg)

  not_stable : (j i : ℕ) → (let w : Next = Completes j i in w) ≡ Stable → ⊥
  not_stable j i h = cc

  instant_one : (k : KeptState) (e : Event) (a c : KeptState) → InstantMayCome network limits k e a → InstantMayCome network limits k e c → a ≡ c
  instant_one k e a c x y =
      x.left ∙ (ap (kept_completed still k (k.burst + 1) e.leaf e.act) (same_values k e.leaf e.act k.time x.effect y.effect e x.done y.done x.event y.event) ∙ sym y.left)

  timed_one : (k : KeptState) (e : Event) (a c : KeptState) → TimedMayCome network limits k e a → TimedMayCome network limits k e c → a ≡ c
  timed_one k e a c x y =
      let rows : y.rows ≡ x.rows = same_all y.rows x.rows (sym y.fires.renewed.renewed ∙ x.fires.renewed.renewed) in
      let now : KeptState = fired_at network limits k x.rows (due_in e) in
      let done : IsDone network limits now e.leaf e.act y.effect = subst (λ (rs : List Row). IsDone network limits (fired_at network limits k rs (due_in e)) e.leaf e.act y.effect) rows y.done in
      let left : c ≡ kept_completed still now 0 e.leaf e.act y.effect.values = y.left ∙ ap (λ (rs : List Row). kept_completed still (fired_at network limits k rs (due_in e)) 0 e.leaf e.act y.effect.values) rows in
      x.left ∙ (ap (kept_completed still now 0 e.leaf e.act) (same_values now e.leaf e.act e.time x.effect y.effect e x.done done x.event y.event) ∙ sym left)

  come_one : (k : KeptState) (e : Event) (a c : KeptState) → MayCome network limits k e a → MayCome network limits k e c → a ≡ c
  come_one k e a c (inl x) (inl y) = instant_one k e a c x y
  come_one k e a c (inl x) (inr y) = absurd (not_stable e.leaf e.act (sym x.next ∙ y.fires.renewed.next))
  come_one k e a c (inr x) (inl y) = absurd (not_stable e.leaf e.act (sym y.next ∙ x.fires.renewed.next))
  come_one k e a c (inr x) (inr y) = timed_one k e a c x y

  follow_one : (k : KeptState) (es : List Event) (a c : KeptState) → MayFollow network limits k es a → MayFollow network limits k es c → a ≡ c
  follow_one k [] a c x y = sym x ∙ y
  follow_one k (e ∷ es) a c x y =
      let same : y.0 ≡ x.0 = come_one k e y.0 x.0 y.1 x.1 in
      follow_one x.0 es a c x.2 (subst (λ (z : KeptState). MayFollow network limits z es c) same y.2)

  -- ---- runs of draws

  abbrev opening : State
  opening = opening_state still

  abbrev blank : KeptState
  blank = kept_opening still

  free_of : (es : List Event) (s : State) → IsReached network limits es s → FreeRuns network limits opening es s
  free_of es s is = free_by network free.apart limits is.draw is.words opening s es (subst (λ (o : State). Runs (net_of is.draw network limits) o es s) (opening_same network limits is.draw (λ s n. 0)) is.runs)

  draws_of : (es : List Event) (s : State) (x : Stepped × State) → FreeRuns network limits opening es s → IsFreeStep network limits s x → IsOfDraws network limits opening es s x
  draws_of es s x runs last = (free_runs_are_of_draws network free.apart limits opening s es x (opening_sized network limits)).0 (runs, last)

  runs_of : (draw : ℕ → ℕ → ℕ) (es : List Event) (s : State) → Runs (net_of draw network limits) opening es s → Runs (net_of draw network limits) (opening_state (net_of draw network limits)) es s
  runs_of draw es s runs = subst (λ (o : State). Runs (net_of draw network limits) o es s) (opening_same network limits (λ s n. 0) draw) runs

  reaches : (es : List Event) (s : State) → FreeRuns network limits opening es s → IsReached network limits es s
  reaches es s runs =
      let of = draws_of es s (step still s) runs (record { draw = λ s n. 0; words = λ s n. omega arith; is = refl }) in
      record { draw = of.draw; words = of.words; runs = runs_of of.draw es s of.runs }

  kept_of : (es : List Event) (s : State) → IsReached network limits es s → KeptBy blank es s
  kept_of es s is = run_judged blank opening s es (opening_ready network limits) (opening_within network limits) (free_of es s is)

  runs_to : (es : List Event) (k : KeptState) (s : State) → IsKept network limits es k → StateAgrees network k s → FreeRuns network limits opening es s
  runs_to es k s follow within =
      let found = run_found blank k s es (opening_ready network limits) follow within in
      subst (λ (o : State). FreeRuns network limits o es s) (opening_only network limits found.0 found.1) found.2

  within_kept : (es : List Event) (k : KeptState) (s : State) → IsKept network limits es k → IsReached network limits es s → StateAgrees network k s
  within_kept es k s follow is =
      let came = kept_of es s is in
      subst (λ (x : KeptState). StateAgrees network x s) (follow_one blank es came.after k came.follow follow) came.within

  reaches_kept : (es : List Event) (k : KeptState) (s : State) → IsKept network limits es k → StateAgrees network k s → IsReached network limits es s
  reaches_kept es k s follow within = reaches es s (runs_to es k s follow within)

  kept_reached : (es : List Event) (k : KeptState) → IsKept network limits es k → (s : State) × IsReached network limits es s
  kept_reached es k follow =
      let ready = follow_ready blank k es (opening_ready network limits) follow in
      let any = some_rows network (bound_of k) k.rows ready.some in
      (with_rows k any.0, reaches_kept es k (with_rows k any.0) follow (record { same = refl; rows = any.1 }))

  -- ---- whole runs

  whole : (net : Net) (o s left : State) (es : List Event) (time : ℕ) (ending : Ending) → Runs net o es s → step net s ≡ (Over time ending, left) → trajectory net o ≡ Some (record { events = es; time = time; ending = ending })
  whole net o s left es time ending runs is =
      let rest : Trajectory = record { events = []; time = time; ending = ending } in
      rest_is_trajectory net o s es rest runs (ap (λ (x : Stepped × State). ran_by x.0 (run net (net.limit - s.count)) x.1) is)
      ∙ ap (λ (xs : List Event). (let y : Option Trajectory = Some (record { events = xs; time = time; ending = ending }) in y)) (append_none es)

  record Ended (net : Net) (o : State) (t : Trajectory) : Type 0 where
    last : State
    runs : Runs net o t.events last
    is : (step net last).0 ≡ Over t.time t.ending

  same_trajectory : (a b : Trajectory) → (let o : Option Trajectory = Some a in o) ≡ Some b → a ≡ b
  same_trajectory a b e = cc

  ended_by : (net : Net) (n : ℕ) (s : State) (h : Stepped) (t : Trajectory) → (step net s).0 ≡ h → ((y : Trajectory) → run net n (step net s).1 ≡ Some y → Ended net (step net s).1 y) → ran_by h (run net n) (step net s).1 ≡ Some t → Ended net s t
  ended_by net n s (Over time ending) t at go is =
      let same : (let y : Trajectory = record { events = []; time = time; ending = ending } in y) ≡ t = same_trajectory (record { events = []; time = time; ending = ending }) t is in
      subst (Ended net s) same (record { last = s; runs = refl; is = at })
  ended_by net n s (Happened e) t at go is = by_rest (run net n (step net s).1) refl is
    where
      by_rest : (o : Option Trajectory) → run net n (step net s).1 ≡ o → ran_on e o ≡ Some t → Ended net s t
      by_rest None same h = absurd cc
      by_rest (Some y) same h =
          let more = go y same in
          let joined : (let z : Trajectory = record { events = e ∷ y.events; time = y.time; ending = y.ending } in z) ≡ t = same_trajectory (record { events = e ∷ y.events; time = y.time; ending = y.ending }) t h in
          subst (Ended net s) joined (record { last = more.last; runs = (at, more.runs); is = more.is })

  ended : (net : Net) (n : ℕ) (s : State) (t : Trajectory) → run net n s ≡ Some t → Ended net s t
  ended net zero s t is = absurd cc
  ended net (suc n) s t is = ended_by net n s (step net s).0 t refl (λ y h. ended net n (step net s).1 y h) is

  -- a run that begins with events comes to a state with them
  record Prefix (net : Net) (o : State) (es : List Event) : Type 0 where
    state : State
    runs : Runs net o es state

  prefix_of : (net : Net) (o t : State) (es rest : List Event) → Runs net o (es ++ rest) t → Prefix net o es
  prefix_of net o t [] rest runs = record { state = o; runs = refl }
  prefix_of net o t (e ∷ es) rest runs = let more = prefix_of net (step net o).1 t es rest runs.1 in record { state = more.state; runs = (runs.0, more.runs) }

  begins : (es : List Event) (k : KeptState) → IsKept network limits es k → BeginsRun network limits es
  begins es k follow =
      let reached = kept_reached es k follow in
      let is = reached.1 in
      let net = net_of is.draw network limits in
      let rest = has_trajectory net reached.0 in
      record { draw = is.draw; words = is.words; rest = rest.0; is = rest_is_trajectory net (opening_state net) reached.0 es rest.0 is.runs rest.1 }

  begun : (es : List Event) → BeginsRun network limits es → (k : KeptState) × IsKept network limits es k
  begun es of =
      let net = net_of of.draw network limits in
      let o = opening_state net in
      let end = ended net (suc (net.limit - o.count)) o (followed_by es of.rest) of.is in
      let first = prefix_of net o end.last es of.rest.events end.runs in
      let came = kept_of es first.state (record { draw = of.draw; words = of.words; runs = first.runs }) in
      (came.after, came.follow)

  legal_is : (t : Trajectory) → IsLegal network limits t → IsTrajectory network limits t
  legal_is t legal =
      let ready = follow_ready blank legal.kept t.events (opening_ready network limits) legal.events in
      let found = ending_found network limits legal.kept ready free t.time t.ending legal.ending in
      let runs = runs_to t.events legal.kept found.found.state legal.events found.found.within in
      let of = draws_of t.events found.found.state (Over t.time t.ending, found.left) runs found.found.step in
      let net = net_of of.draw network limits in
      record { draw = of.draw; words = of.words; is = whole net (opening_state net) found.found.state found.left t.events t.time t.ending (runs_of of.draw t.events found.found.state of.runs) of.next }

  is_legal : (t : Trajectory) → IsTrajectory network limits t → IsLegal network limits t
  is_legal t of =
      let net = net_of of.draw network limits in
      let o = opening_state net in
      let end = ended net (suc (net.limit - o.count)) o t of.is in
      let came = kept_of t.events end.last (record { draw = of.draw; words = of.words; runs = end.runs }) in
      let left : State = (step net end.last).1 in
      let last : IsFreeStep network limits end.last (Over t.time t.ending, left) = record { draw = of.draw; words = of.words; is = ap (λ (h : Stepped). (let y : Stepped × State = (h, left) in y)) end.is } in
      record { kept = came.after; events = came.follow; ending = step_by came.after end.last (Over t.time t.ending, left) came.ready came.within last }

pub kept_states_are_those_of_runs : (network : Network) → IsFreeNetwork network → KeptStatesAreThoseOfRuns network
kept_states_are_those_of_runs network free limits es k follow s = (within_kept network free limits es k s follow, reaches_kept network free limits es k s follow)

pub legal_events_are_those_of_runs : (network : Network) → IsFreeNetwork network → LegalEventsAreThoseOfRuns network
legal_events_are_those_of_runs network free limits es = (
  (λ kept. kept_reached network free limits es kept.0 kept.1),
  (λ is. (let came = kept_of network free limits es is.0 is.1 in (came.after, came.follow))),
)

pub legal_events_begin_runs : (network : Network) → IsFreeNetwork network → LegalEventsBeginRuns network
legal_events_begin_runs network free limits es = ((λ kept. begins network free limits es kept.0 kept.1), begun network free limits es)

pub legal_runs_are_those_of_draws : (network : Network) → IsFreeNetwork network → LegalRunsAreThoseOfDraws network
legal_runs_are_those_of_draws network free limits t = (legal_is network free limits t, is_legal network free limits t)

pub kept_state_is_one : (network : Network) → IsFreeNetwork network → KeptStateIsOne network
kept_state_is_one network free limits es k l a c = follow_one network free limits (kept_opening (undrawn network limits)) es k l a c
