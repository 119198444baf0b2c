-- A run that went on to its end, and the summary of its report.
use Rattle.std.proofs.Common.{ℕ, suc, ◌+◌, ◌≡◌, ◌∙◌, ap, sym, subst, arith, List, [], ◌∷◌, ◌++◌, append-nil, length, Option, Some, None}
use Rattle.san_base.proofs.FlowLemmas.{appends_nothing}
use Rattle.san_base.specs.declared.ending.Event.{Event}
use Rattle.san_law.proofs.Trajectories.{rest_is_trajectory}
use Rattle.san_law.specs.Net.{Net}
use Rattle.san_law.specs.State.{opening_state}
use Rattle.san_law.specs.Step as law
use Rattle.san_law.specs.Trajectory.{trajectory}
use Rattle.san_net.specs.Network.{Network}
use Rattle.san_net.specs.Runs.{ending_in, event_in}
use Rattle.san_report.specs.Lines.{ending_line, event_line, reward_lines}
use Rattle.san_report.specs.Pages.{Sent}
use Rattle.san_plain.specs.Reports.{Opened, last_line, net_by, summary_by, summary_of, worth_at}
use Rattle.san_plain.specs.declared.counted.CountedRun.{CountedRun}
use Rattle.san_plain.specs.declared.counted.Outcome.{Outcome}
use Rattle.san_plain.specs.inner.Progress.{IsInLast, IsLastOf, IsOver, RunsOut, left_after, line_of_last}
use Rattle.san_plain.proofs.EndLemmas.{is_over}
use Rattle.san_plain.proofs.ReportLemmas.{ends_at, lines_last}

line_at : (n : Network) (event : Event) (j k : ℕ) → j ≡ k → event_line n j event ≡ event_line n k event
line_at n event j k e = ap (λ (m : ℕ). event_line n m event) e

-- the last line is that of the event that came last
last_of : (n : Network) (front : List law.Event) (e : law.Event) (k : ℕ) → last_line n k (front ++ e ∷ []) ≡ event_line n (k + length front) (event_in n e)
last_of n [] e k = line_at n (event_in n e) k (k + 0) (omega arith)
last_of n (f ∷ []) e k = line_at n (event_in n e) (suc k) (k + 1) (omega arith)
last_of n (f ∷ (g ∷ gs)) e k = last_of n (g ∷ gs) e (suc k) ∙ line_at n (event_in n e) (suc k + length (g ∷ gs)) (k + length (f ∷ (g ∷ gs))) (omega arith)

line_is : (n : Network) (es : List law.Event) (last : Option (ℕ × Event)) → IsLastOf n es last → last_line n 0 es ≡ line_of_last n last
line_is n es None h = ap (last_line n 0) h
line_is n es (Some (number, event)) h =
    let count : 0 + length h.0 ≡ number = omega (arith, h.3) in
    ap (last_line n 0) h.2
    ∙ (last_of n h.0 h.1 0
    ∙ (line_at n (event_in n h.1) (0 + length h.0) number count ∙ ap (event_line n number) h.4))

inside : (n : Network) (es : List law.Event) (last : Option (ℕ × Event)) → IsLastOf n es last → IsInLast n last
inside n es None h = tt
inside n es (Some (number, event)) h = h.5

-- a last event's line is what is put
pub line_put : (n : Network) (last : Option (ℕ × Event)) (number : ℕ) (event : Event) (first now : Option (List ℕ)) (page text rest : List ℕ) → last ≡ Some (number, event) → Sent first now page text (line_of_last n last ++ rest) → Sent first now page text (event_line n number event ++ rest)
line_put n last number event first now page text rest is sent = subst (λ (l : Option (ℕ × Event)). Sent first now page text (line_of_last n l ++ rest)) is sent

module _ (o : Opened) (out : Outcome) (c : CountedRun) (ran : RunsOut o out c) where
  abbrev net : Net
  net = net_by o

  same_network : c.flat.now ≡ o.network
  same_network = ap (λ (d : CountedRun). d.flat.now) ran.ends.kept ∙ ran.stands.of_network

  pub last_inside : IsInLast c.flat.now out.last
  last_inside = subst (λ (n : Network). IsInLast n out.last) (sym same_network) (inside o.network ran.events out.last ran.last)

  -- the summary is the last line and what of the report is left where the run ends
  summary_left : summary_of o ≡ last_line o.network 0 ran.events ++ left_after o ran.events (trajectory net ran.state)
  summary_left =
      let n = o.network in
      let e = ending_in n ran.ends.time ran.ends.why in
      let ends = ends_at net ran.state ran.ends.time ran.ends.why ran.ends.over in
      ap (summary_by n net) (rest_is_trajectory net (opening_state net) ran.state ran.events (record { events = []; time = ran.ends.time; ending = ran.ends.why }) ran.stands.runs ends)
      ∙ (ap (λ (xs : List law.Event). last_line n 0 xs ++ (ending_line n (length xs) e ++ reward_lines n.rewards 0 (worth_at net xs ran.ends.why))) (append-nil ran.events)
      ∙ ap (λ (ys : List ℕ). last_line n 0 ran.events ++ ys) (sym (lines_last o ran.events ran.state ran.ends.time ran.ends.why ran.ends.over)))

  summary_is : summary_of o ≡ line_of_last c.flat.now out.last ++ left_after o ran.events (trajectory net ran.state)
  summary_is =
      summary_left
      ∙ (ap (λ (ys : List ℕ). ys ++ left_after o ran.events (trajectory net ran.state)) (line_is o.network ran.events out.last ran.last)
      ∙ ap (λ (n : Network). line_of_last n out.last ++ left_after o ran.events (trajectory net ran.state)) (sym same_network))

  -- before the summary nothing was sent
  pub summary_sent : (first : Option (List ℕ)) (page : List ℕ) → page ≡ [] → Sent first first page (summary_of o) (line_of_last c.flat.now out.last ++ left_after o ran.events (trajectory net ran.state))
  summary_sent first page empty = subst (λ (p : List ℕ). Sent first first p (summary_of o) (line_of_last c.flat.now out.last ++ left_after o ran.events (trajectory net ran.state))) (sym empty) ([], appends_nothing first, sym summary_is)

  -- behind the last line the run is over
  pub summary_over : (d : CountedRun) (first now : Option (List ℕ)) (page : List ℕ) → d ≡ c → Sent first now page (summary_of o) (left_after o ran.events (trajectory net ran.state)) → IsOver o (summary_of o) first now d page out.ending
  summary_over d first now page same sent = subst (λ (k : CountedRun). IsOver o (summary_of o) first now k page out.ending) (sym same) (is_over o ran.events ran.state ran.before ran.stands (summary_of o) first now page out.ending c ran.ends sent)
