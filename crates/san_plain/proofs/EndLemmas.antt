-- A step of a run with the ending: the closing lines alone are left of the report.
use Rattle.std.proofs.Common.{ℕ, ◌<◌, ◌≡◌, ◌∙◌, ap, sym, refl, subst, arith, List, ◌++◌, length, Option, Some, Result, Err}
use Rattle.std.proofs.lemmas.List.{length-map}
use Rattle.san_base.specs.declared.ending.Ending.{Ending}
use Rattle.san_base.specs.declared.ending.Ending.TheVariants as ending
use Rattle.san_base.specs.declared.ending.Event.{Event}
use Rattle.san_base.specs.declared.ending.Stop.{Stop}
use Rattle.san_base.specs.declared.numbers.Tick.{Tick}
use Rattle.san_draw.specs.Key.{draw_of}
use Rattle.san_law.specs.Lawful.{IsLawful}
use Rattle.san_law.specs.Net.{Net, Span}
use Rattle.san_law.specs.Reward as reward
use Rattle.san_law.specs.State.{State, opening_state}
use Rattle.san_law.specs.Step as law
use Rattle.san_law.specs.Tally.{tally_worth}
use Rattle.san_net.specs.Network.{Network, span_in}
use Rattle.san_net.proofs.LaidLemmas.{lawful}
use Rattle.san_report.specs.Lines.{ending_line}
use Rattle.san_report.specs.Puts.{EndsIn}
use Rattle.san_reward.specs.Running.{net_in}
use Rattle.san_reward.specs.Worth.{worth_of}
use Rattle.san_reward.specs.declared.worth.Worth.{Worth}
use Rattle.san_reward.proofs.RatesSet.{rates_law}
use Rattle.san_reward.proofs.Sameness.{worth_same}
use Rattle.san_report.specs.Closings.{closing, worths_by}
use Rattle.san_plain.specs.inner.Progress.{Ends, IsOver, RunStands, left_after}
use Rattle.san_report.specs.Pages.{Sent}
use Rattle.san_plain.specs.Reports.{Opened, net_by, worth_at}
use Rattle.san_plain.specs.declared.counted.CountedRun.{CountedRun}
use Rattle.san_plain.proofs.NumberLemmas.{act_below}
use Rattle.san_plain.proofs.ReportLemmas.{lines_last, outcome_is, rewards_like}
use Rattle.san_plain.proofs.StepLemmas.{IsEnd, ends, fits_at}
use Rattle.san_plain.proofs.WorthLemmas.{counted_worth}
use Rattle.san_law.specs.Trajectory.{trajectory}
use Rattle.san_seq.proofs.PublicAnswers.{stop_answered, end_answered}
use Rattle.san_seq.proofs.RunLemmas.{same_ending}
use Rattle.san_seq.specs.FlatRun.{Run, step_of}
use Rattle.san_net.specs.Runs.{ending_in, limits_in}
use Rattle.san_seq.specs.Outcomes.{stepped_of, event_or_ending}
use Rattle.san_seq.specs.declared.steps.Stepped.TheVariants as stepped

-- the law's ending of a step
over_by : (n : Network) (x : law.Stepped) (e : Ending) → event_or_ending n x ≡ Err e → (time : ℕ) × (why : law.Ending) × (x ≡ law.Over time why) × (ending_in n time why ≡ e)
over_by n (law.Happened f) e answered = absurd cc
over_by n (law.Over time why) e answered = (time, why, refl, same_ending (ending_in n time why) e answered)

module _ (o : Opened) (es : List law.Event) (s : State) (c : CountedRun) (st : RunStands o es s c) where
  abbrev net : Net
  net = net_by o

  is_lawful : IsLawful net
  is_lawful = lawful o.network st.known (draw_of o.seed) (limits_in o.limits)

  end_is : (time : ℕ) (why : law.Ending) → (law.step net s).0 ≡ law.Over time why → IsEnd o.network net time why
  end_is time why over = ends o.network (draw_of o.seed) (limits_in o.limits) is_lawful s time why (fits_at o.network (draw_of o.seed) (limits_in o.limits) is_lawful es s st.runs) over

  pub many_spans : length c.account.running.spans ≡ length o.network.rewards
  many_spans = ap (λ (xs : List Span). length xs) (sym st.counted.is_of.spans) ∙ length-map o.network.rewards (λ r. span_in r.span)

  -- what the account says of a reward is its worth
  worth_by : (r : ℕ) → r < length o.network.rewards → tally_worth (net_in c.account.running) c.account.running.tally c.account.running.time r ≡ reward.worth net r (opening_state net) es
  worth_by r h =
      let a = c.account in
      let inside : r < length net.spans = omega (arith, h, length-map o.network.rewards (λ r. span_in r.span)) in
      sym (worth_same net a.running st.counted.is_of r)
      ∙ counted_worth net (opening_state net) s es a.running.time a.running.tally st.runs st.counted.counts (st.counted.rates ∙ rates_law s.marking o.network (draw_of o.seed) (limits_in o.limits)) r inside

  pub worths_are : (time : ℕ) (why : law.Ending) (r : ℕ) → r < length o.network.rewards → worth_at net es why r ≡ worths_by c.account.running (ending_in o.network time why) r
  worths_are time law.End r h = ap (λ (w : reward.Worth). (let x : Option Worth = Some (worth_of w) in x)) (sym (worth_by r h))
  worths_are time law.Unstable r h = refl
  worths_are time law.Events r h = refl
  worths_are time (law.Trapped j k trap) r h = refl

  ends_in : (time : ℕ) (why : law.Ending) → IsEnd o.network net time why → EndsIn o.network (ending_in o.network time why)
  ends_in time law.End is = tt
  ends_in time law.Unstable is = tt
  ends_in time law.Events is = tt
  ends_in time (law.Trapped j k trap) is = act_below o.network st.known j k is

  closing_is : (time : ℕ) (why : law.Ending) → (law.step net s).0 ≡ law.Over time why → left_after o es (trajectory net s) ≡ closing c.flat.now c.account.running c.count (ending_in o.network time why)
  closing_is time why over =
      let n = o.network in
      let e = ending_in n time why in
      lines_last o es s time why over
      ∙ (ap (λ (xs : List ℕ). ending_line n (length es) e ++ xs) (rewards_like n.rewards 0 (worth_at net es why) (worths_by c.account.running e) (λ q l h. worths_are time why q (omega (arith, h))))
      ∙ (ap (λ (k : ℕ). closing n c.account.running k e) (sym st.many) ∙ ap (λ (m : Network). closing m c.account.running c.count e) (sym st.of_network)))

  over : (text : List ℕ) (first now : Option (List ℕ)) (page : List ℕ) (time : ℕ) (why : law.Ending) → (law.step net s).0 ≡ law.Over time why → Sent first now page text (left_after o es (trajectory net s)) → IsOver o text first now c page (ending_in o.network time why)
  over text first now page time why is sent = record {
    outcome = outcome_is o es s time why st.runs is;
    within = subst (λ (n : Network). EndsIn n (ending_in o.network time why)) (sym st.of_network) (ends_in time why (end_is time why is));
    spans = many_spans ∙ ap (λ (n : Network). length n.rewards) (sym st.of_network);
    put = subst (λ (xs : List ℕ). Sent first now page text xs) (closing_is time why is) sent;
  }

  -- a run is over by its last step
  pub is_over : (text : List ℕ) (first now : Option (List ℕ)) (page : List ℕ) (e : Ending) (new : CountedRun) → Ends o s e c new → Sent first now page text (left_after o es (trajectory net s)) → IsOver o text first now new page e
  is_over text first now page e new ends sent = subst (λ (k : CountedRun). IsOver o text first now k page e) (sym ends.kept) (moved (subst (IsOver o text first now c page) ends.ending_is (over text first now page ends.time ends.why ends.over sent)))
    where
      moved : IsOver o text first now c page e → IsOver o text first now (record c { seq = new.seq }) page e
      moved y = record { outcome = y.outcome; within = y.within; spans = y.spans; put = y.put }

  ends_by : (e : Ending) (new : CountedRun) → (step_of c.seq).0 ≡ Err e → new ≡ record c { seq = new.seq } → Ends o s e c new
  ends_by e new answered kept =
      let at = over_by o.network (law.step net s).0 e (ap (λ (r : Run). (step_of r).0) (sym st.at_state) ∙ answered) in
      record { time = at.0; why = at.1; over = at.2; ending_is = at.3; kept = kept }

  end_tick : (time : ℕ) (why : law.Ending) (h : Tick) → IsEnd o.network net time why → ending_in o.network time why ≡ ending.End h → h ≡ o.limits.horizon
  end_tick time law.End h is e = same (record { 0 = time }) h e is
    where
      tick : (a b : Tick) → a.0 ≡ b.0 → a ≡ b
      tick a b q = ap (λ (x : ℕ). (let t : Tick = record { 0 = x } in t)) q

      same : (a b : Tick) → ending.End a ≡ ending.End b → a.0 ≡ o.limits.horizon.0 → b ≡ o.limits.horizon
      same a b q z = let w : a ≡ b = cc in sym w ∙ tick a o.limits.horizon z
  end_tick time law.Unstable h is e = absurd cc
  end_tick time law.Events h is e = absurd cc
  end_tick time (law.Trapped j k trap) h is e = absurd cc

  -- the end is at the horizon
  at_horizon : (h : Tick) → (step_of c.seq).0 ≡ Err (ending.End h) → (step_of c.seq).0 ≡ Err (ending.End c.limits.horizon)
  at_horizon h answered =
      let at = over_by o.network (law.step net s).0 (ending.End h) (ap (λ (r : Run). (step_of r).0) (sym st.at_state) ∙ answered) in
      let tick = end_tick at.0 at.1 h (end_is at.0 at.1 at.2) at.3 in
      answered ∙ ap (λ (t : Tick). (let r : Result Event Ending = Err (ending.End t) in r)) (tick ∙ ap (λ l. l.horizon) (sym st.in_limits))

  -- a step that ends the run at its horizon, or stops it
  pub ended : (new : CountedRun) → stepped.End ≡ stepped_of (step_of c.seq).0 → new ≡ record c { seq = new.seq } → Ends o s (ending.End c.limits.horizon) c new
  ended new said kept = let answered = end_answered (step_of c.seq).0 (sym said) in ends_by (ending.End c.limits.horizon) new (at_horizon answered.0 answered.1) kept

  pub stopped : (new : CountedRun) (why : Stop) → stepped.Stopped why ≡ stepped_of (step_of c.seq).0 → new ≡ record c { seq = new.seq } → Ends o s (ending.Stop why) c new
  stopped new why said kept = ends_by (ending.Stop why) new (stop_answered (step_of c.seq).0 why (sym said)) kept
