-- A step of a run with an event: what an account may count of it, and how the run stands after it.
use Rattle.std.proofs.Common.{ℕ, ◌+◌, ◌^◌, ◌≤◌, ◌<◌, ◌≡◌, ◌∙◌, ap, sym, refl, subst, arith, List, [], ◌∷◌, ◌++◌, length, length-append, Option, Ok}
use Rattle.san_base.specs.declared.ending.Event.{Event}
use Rattle.san_draw.specs.Key.{draw_of}
use Rattle.san_law.proofs.Orders.{runs_append}
use Rattle.san_law.proofs.Steps.{counted, runs_within}
use Rattle.san_law.specs.Lawful.{IsLawful}
use Rattle.san_law.specs.Net.{Net}
use Rattle.san_law.specs.Reward.{rates_from}
use Rattle.san_law.specs.State.{State, gather, opening_state, scatter, slots_of}
use Rattle.san_law.specs.Step as law
use Rattle.san_net.specs.Laid.{acts_of}
use Rattle.san_net.specs.Network.{Network}
use Rattle.san_net.proofs.LaidLemmas.{lawful}
use Rattle.san_report.specs.Lines.{event_line}
use Rattle.san_reward.specs.Running.{rates_in, with_all_rates, with_impulses, advanced}
use Rattle.san_reward.proofs.RatesSet.{rates_law}
use Rattle.san_plain.specs.inner.Accounts.{RewardAccount, Reaches, impulses_of, with_event}
use Rattle.san_law.specs.Trajectory.{trajectory}
use Rattle.san_plain.specs.inner.Progress.{HasCounted, RunStands, left_after, run_at}
use Rattle.san_report.specs.Pages.{Sent}
use Rattle.san_plain.specs.Reports.{Opened, net_by, report_of}
use Rattle.san_plain.specs.declared.counted.CountedRun.{CountedRun}
use Rattle.san_plain.proofs.CountLemmas.{counts_on}
use Rattle.san_plain.proofs.NumberLemmas.{act_below, impulses_same, reaches}
use Rattle.san_plain.proofs.ReportLemmas.{line_first}
use Rattle.san_plain.proofs.StepLemmas.{Completion, completes, fits_at}
use Rattle.san_seq.specs.FlatRun.{On, Run, after_step, marking_of, step_of}
use Rattle.san_net.specs.Runs.{event_in, limits_in}
use Rattle.san_seq.specs.Reaching.{IsInTime, IsTheLaws, impulses_at}
use Rattle.san_net.specs.Tables.{act_of}
use Rattle.san_seq.specs.Outcomes.{stepped_of}
use Rattle.san_seq.specs.declared.steps.Stepped.TheVariants as stepped
use Rattle.san_seq.proofs.ReachLemmas.{events_are_laws, events_in_time}
use Rattle.san_seq.proofs.PublicAnswers.{event_answered}

module _ (o : Opened) (es : List law.Event) (s : State) (c : CountedRun) (st : RunStands o es s c) (event : Event) (said : stepped.Event event ≡ stepped_of (step_of c.seq).0) where
  abbrev net : Net
  net = net_by o

  pub answered : (step_of c.seq).0 ≡ Ok event
  answered = event_answered (step_of c.seq).0 event (sym said)

  is_lawful : IsLawful net
  is_lawful = lawful o.network st.known (draw_of o.seed) (limits_in o.limits)

  pub is_the_laws : IsTheLaws (run_at o s) s event
  is_the_laws = events_are_laws (run_at o s) s event refl (ap (λ (r : Run). (step_of r).0) (sym st.at_state) ∙ answered)

  abbrev pub happened : law.Event
  happened = is_the_laws.event

  abbrev pub reached : State
  reached = (law.step net s).1

  pub happens : (law.step net s).0 ≡ law.Happened happened
  happens = is_the_laws.happens

  pub event_is : event_in o.network happened ≡ event
  event_is = is_the_laws.answered

  in_time : IsInTime o.network net s happened
  in_time = events_in_time o.network st.known (draw_of o.seed) (limits_in o.limits) es s happened st.runs happens

  done : Completion o.network net s happened reached
  done = completes o.network (draw_of o.seed) (limits_in o.limits) is_lawful s happened (fits_at o.network (draw_of o.seed) (limits_in o.limits) is_lawful es s st.runs) happens

  act_is : (act_of o.network happened.leaf happened.act).0 ≡ event.act.0
  act_is = ap (λ (e : Event). e.act.0) event_is

  time_is : happened.time ≡ event.time.0
  time_is = ap (λ (e : Event). e.time.0) event_is

  pub act_there : event.act.0 < acts_of c.account.network.parts
  act_there =
      let of = ap (λ (n : Network). acts_of n.parts) st.counted.of_network in
      omega (arith, act_is, of, act_below o.network st.known happened.leaf happened.act done.act)

  pub not_before : c.account.running.time ≤ event.time.0
  not_before = omega (arith, st.counted.early, in_time.later, time_is)

  pub not_after : event.time.0 ≤ c.account.running.horizon
  not_after = omega (arith, in_time.within, st.counted.is_of.horizon, time_is)

  events_few : length es ≤ o.limits.events
  events_few = let k = runs_within net (opening_state net) s es st.runs in omega (arith, k.0)

  pub next_fits : c.count + 1 ≤ 10000000 + 1
  next_fits = omega (arith, events_few, st.many, st.range.events_in_range)

  module _ (new : Run) (m : List ℕ) (left : new ≡ after_step c.seq) (here : m ≡ marking_of new.run_phase) where
    run_phase : new.run_phase ≡ On reached
    run_phase = ap (λ (r : Run). r.run_phase) (left ∙ ap after_step st.at_state) ∙ is_the_laws.left

    marking_is : m ≡ reached.marking
    marking_is = here ∙ ap marking_of run_phase

    sized_is : length m ≡ length o.network.initial
    sized_is = ap (λ (xs : List ℕ). length xs) marking_is ∙ done.fits.sized

    pub sized : length m ≡ length c.account.network.initial
    sized = sized_is ∙ ap (λ (n : Network). length n.initial) (sym st.counted.of_network)

    impulses_are : impulses_of c.account.network event.act.0 m ≡ happened.impulses
    impulses_are =
        ap (λ (n : Network). impulses_of n event.act.0 m) st.counted.of_network
        ∙ (ap (λ (a : ℕ). impulses_of o.network a m) (sym act_is)
        ∙ (impulses_same o.network st.known happened.leaf happened.act done.act (draw_of o.seed) (limits_in o.limits) m
        ∙ (ap (λ (xs : List ℕ). impulses_at o.network happened.leaf happened.act (gather (slots_of net happened.leaf) xs)) marking_is
        ∙ sym in_time.impulses)))

    pub few : c.account.running.tally.impulses + length (impulses_of c.account.network event.act.0 m) ≤ 2 ^ 40
    few =
        let now = ap (λ xs. length xs) impulses_are in
        let one = (counted net s happened happens).few is_lawful in
        omega (arith, now, one, events_few, st.counted.counts.impulses, st.range.events_in_range.1)

    pub reaching : Reaches c.account.network event.act.0 c.account.marking m
    reaching =
        let a = c.account in
        let back : scatter (slots_of net happened.leaf) done.values s.marking ≡ m = sym (marking_is ∙ done.marking) in
        subst (λ (n : Network). Reaches n event.act.0 a.marking m) (sym st.counted.of_network)
        (subst (λ (k : ℕ). Reaches o.network k a.marking m) act_is
        (subst (λ (xs : List ℕ). Reaches o.network (act_of o.network happened.leaf happened.act).0 xs m) (sym st.counted.at_marking)
        (subst (λ (xs : List ℕ). Reaches o.network (act_of o.network happened.leaf happened.act).0 s.marking xs) back
        (reaches o.network st.known happened.leaf happened.act done.act (draw_of o.seed) (limits_in o.limits) done.values s.marking))))

    counted_on : (a : RewardAccount) → a ≡ with_event c.account event m → HasCounted o (es ++ happened ∷ []) reached a
    counted_on a is =
        let was = c.account in
        let present : was.running.tally.rates ≡ rates_from net 0 net.parts s.marking = st.counted.rates ∙ rates_law s.marking o.network (draw_of o.seed) (limits_in o.limits) in
        let running : a.running ≡ with_impulses (with_all_rates (advanced was.running happened.time) (rates_in was.network m)) (impulses_of was.network event.act.0 m) =
        ap (λ (x : RewardAccount). x.running) is ∙ ap (λ (t : ℕ). with_impulses (with_all_rates (advanced was.running t) (rates_in was.network m)) (impulses_of was.network event.act.0 m)) (sym time_is) in
        let on = counts_on net (opening_state net) s es happened was.running (rates_in was.network m) st.counted.is_of st.runs st.counted.counts present (omega (arith, st.counted.early, in_time.later)) in_time.within ((counted net s happened happens).few is_lawful) a.running (impulses_of was.network event.act.0 m) impulses_are running in
        record {
          of_network = ap (λ (x : RewardAccount). x.network) is ∙ st.counted.of_network;
          at_marking = ap (λ (x : RewardAccount). x.marking) is ∙ marking_is;
          is_of = on.is_of;
          rates = on.set ∙ (ap (λ (n : Network). rates_in n m) st.counted.of_network ∙ ap (rates_in o.network) marking_is);
          counts = on.counts;
          early = omega (arith, on.now, in_time.present);
        }

    pub stands_on : (d : CountedRun) → d.flat.now ≡ c.flat.now → d.limits ≡ c.limits → d.seq ≡ new → d.account ≡ with_event c.account event m → d.count ≡ c.count + 1 → RunStands o (es ++ happened ∷ []) reached d
    stands_on d flat limits seq account count = record {
      known = st.known;
      range = st.range;
      of_network = flat ∙ st.of_network;
      in_limits = limits ∙ st.in_limits;
      runs = runs_append net (opening_state net) s reached es (happened ∷ []) st.runs (happens, refl);
      at_state = seq ∙ (left ∙ (ap after_step st.at_state ∙ ap (λ g. record { network = o.network; seed = o.seed; limits = o.limits; run_phase = g }) is_the_laws.left));
      counted = counted_on d.account account;
      many = omega (arith, count, st.many, length-append es (happened ∷ []));
    }

  pub inside : event.act.0 < acts_of o.network.parts
  inside = omega (arith, act_is, act_below o.network st.known happened.leaf happened.act done.act)

-- the line of an event
module _ (o : Opened) (es : List law.Event) (s : State) (c : CountedRun) (st : RunStands o es s c) (event : Event) (happened : law.Event) (happens : (law.step (net_by o) s).0 ≡ law.Happened happened) (event_is : event_in o.network happened ≡ event) where
  line_is : event_line c.flat.now c.count event ≡ event_line o.network (length es) (event_in o.network happened)
  line_is =
      ap (λ (n : Network). event_line n c.count event) st.of_network
      ∙ (ap (λ (k : ℕ). event_line o.network k event) st.many ∙ ap (event_line o.network (length es)) (sym event_is))

  -- it comes first of what is left of the report
  pub sent_line : (n : Network) (first now : Option (List ℕ)) (page : List ℕ) → n ≡ c.flat.now → Sent first now page (report_of o) (left_after o es (trajectory (net_by o) s))
      → Sent first now page (report_of o) (event_line n c.count event ++ left_after o (es ++ happened ∷ []) (trajectory (net_by o) (law.step (net_by o) s).1))
  sent_line n first now page same sent =
      let rest = left_after o (es ++ happened ∷ []) (trajectory (net_by o) (law.step (net_by o) s).1) in
      let line : event_line n c.count event ≡ event_line o.network (length es) (event_in o.network happened) = ap (λ (m : Network). event_line m c.count event) same ∙ line_is in
      subst (λ (ys : List ℕ). Sent first now page (report_of o) ys) (line_first o es s happened happens ∙ ap (λ (ys : List ℕ). ys ++ rest) (sym line)) sent
