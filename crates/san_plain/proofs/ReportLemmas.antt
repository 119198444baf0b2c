-- What is left of a report, line by line.
use Rattle.std.proofs.Common.{ℕ, suc, ◌+◌, ◌-◌, ◌≤◌, ◌<◌, ◌≡◌, ◌∙◌, ap, sym, refl, arith, List, [], ◌∷◌, ◌++◌, length, length-append, append_assoc, append-nil, Option, Some, None}
use Rattle.std.specs.Option.{option_map}
use Rattle.san_law.proofs.Steps.{counted}
use Rattle.san_law.proofs.Trajectories.{has_trajectory, rest_is_trajectory}
use Rattle.san_law.specs.Net.{Net}
use Rattle.san_law.specs.State.{State, opening_state}
use Rattle.san_law.specs.Step as law
use Rattle.san_law.specs.Trajectory.{Runs, Trajectory, ran_by, ran_on, run, trajectory}
use Rattle.san_net.specs.declared.part.Reward.{Reward}
use Rattle.san_report.specs.Lines.{ending_line, event_line, reward_line, reward_lines}
use Rattle.san_reward.specs.declared.worth.Worth.{Worth}
use Rattle.san_plain.specs.inner.Progress.{left_after}
use Rattle.san_plain.specs.Reports.{Opened, ending_of, event_lines, net_by, report_by, report_of, worth_at}
use Rattle.san_net.specs.Runs.{ending_in, event_in}

-- a step with an event, and the rest of the run
pub goes_on : (net : Net) (s : State) (e : law.Event) → (law.step net s).0 ≡ law.Happened e → trajectory net s ≡ ran_on e (trajectory net (law.step net s).1)
goes_on net s e is =
    let k = counted net s e is in
    let t = (law.step net s).1 in
    let fuel : net.limit - s.count ≡ suc (net.limit - t.count) = omega (arith, k.below, k.count) in
    ap (λ (m : ℕ). run net (suc m) s) fuel ∙ ap (λ (x : law.Stepped). ran_by x (run net (suc (net.limit - t.count))) t) is

-- a step with the ending
pub ends_at : (net : Net) (s : State) (time : ℕ) (e : law.Ending) → (law.step net s).0 ≡ law.Over time e → trajectory net s ≡ Some (record { events = []; time = time; ending = e })
ends_at net s time e is = ap (λ (x : law.Stepped). ran_by x (run net (net.limit - s.count)) (law.step net s).1) is

-- all that comes after the events
after : Opened → List law.Event → ℕ → law.Ending → List ℕ
after o es time e = ending_line o.network (length es) (ending_in o.network time e) ++ reward_lines o.network.rewards 0 (worth_at (net_by o) es e)

event_left : (o : Opened) (es : List law.Event) (e : law.Event) (t : Trajectory) → left_after o es (ran_on e (Some t)) ≡ event_line o.network (length es) (event_in o.network e) ++ left_after o (es ++ e ∷ []) (Some t)
unfolding after
event_left o es e t =
    let n = o.network in
    let line = event_line n (length es) (event_in n e) in
    let more : suc (length es) ≡ length (es ++ e ∷ []) = omega (arith, length-append es (e ∷ [])) in
    let all : es ++ e ∷ t.events ≡ (es ++ e ∷ []) ++ t.events = sym (append_assoc es (e ∷ []) t.events) in
    append_assoc line (event_lines n (suc (length es)) t.events) (after o (es ++ e ∷ t.events) t.time t.ending)
    ∙ (ap (λ (k : ℕ). line ++ (event_lines n k t.events ++ after o (es ++ e ∷ t.events) t.time t.ending)) more
    ∙ ap (λ (xs : List law.Event). line ++ (event_lines n (length (es ++ e ∷ [])) t.events ++ after o xs t.time t.ending)) all)

event_by : (o : Opened) (es : List law.Event) (e : law.Event) (x : Option Trajectory) → (t : Trajectory) × (x ≡ Some t) → left_after o es (ran_on e x) ≡ event_line o.network (length es) (event_in o.network e) ++ left_after o (es ++ e ∷ []) x
event_by o es e x (t, is) =
    let line = event_line o.network (length es) (event_in o.network e) in
    ap (λ (y : Option Trajectory). left_after o es (ran_on e y)) is ∙ (event_left o es e t ∙ ap (λ (y : Option Trajectory). line ++ left_after o (es ++ e ∷ []) y) (sym is))

-- an event's line comes first, and then the rest
pub line_first : (o : Opened) (es : List law.Event) (s : State) (e : law.Event) → (law.step (net_by o) s).0 ≡ law.Happened e
    → left_after o es (trajectory (net_by o) s) ≡ event_line o.network (length es) (event_in o.network e) ++ left_after o (es ++ e ∷ []) (trajectory (net_by o) (law.step (net_by o) s).1)
line_first o es s e is =
    let net = net_by o in
    ap (left_after o es) (goes_on net s e is) ∙ event_by o es e (trajectory net (law.step net s).1) (has_trajectory net (law.step net s).1)

-- at the ending the closing lines alone are left
pub lines_last : (o : Opened) (es : List law.Event) (s : State) (time : ℕ) (e : law.Ending) → (law.step (net_by o) s).0 ≡ law.Over time e
    → left_after o es (trajectory (net_by o) s) ≡ ending_line o.network (length es) (ending_in o.network time e) ++ reward_lines o.network.rewards 0 (worth_at (net_by o) es e)
unfolding after
lines_last o es s time e is = ap (left_after o es) (ends_at (net_by o) s time e is) ∙ ap (λ (xs : List law.Event). after o xs time e) (append-nil es)

-- and the trajectory is known
pub outcome_is : (o : Opened) (es : List law.Event) (s : State) (time : ℕ) (e : law.Ending) → Runs (net_by o) (opening_state (net_by o)) es s → (law.step (net_by o) s).0 ≡ law.Over time e
    → ending_of o ≡ Some (ending_in o.network time e)
outcome_is o es s time e runs is =
    let net = net_by o in
    ap (option_map (λ (t : Trajectory). ending_in o.network t.time t.ending)) (rest_is_trajectory net (opening_state net) s es (record { events = []; time = time; ending = e }) runs (ends_at net s time e is))

whole_by : (o : Opened) (x : Option Trajectory) → left_after o [] x ≡ report_by o.network (net_by o) x
whole_by o None = refl
whole_by o (Some t) = refl

-- before the first event the whole report is left
pub whole_left : (o : Opened) → left_after o [] (trajectory (net_by o) (opening_state (net_by o))) ≡ report_of o
whole_left o = whole_by o (trajectory (net_by o) (opening_state (net_by o)))

-- the rewards' lines are by the worths of these rewards alone
pub rewards_like : (xs : List Reward) (r : ℕ) (f g : ℕ → Option Worth) → ((q : ℕ) → r ≤ q → q < r + length xs → f q ≡ g q) → reward_lines xs r f ≡ reward_lines xs r g
rewards_like [] r f g h = refl
rewards_like (x ∷ xs) r f g h =
    ap (λ (w : Option Worth). reward_line x.name w ++ reward_lines xs (suc r) f) (h r (omega arith) (omega arith))
    ∙ ap (λ (ys : List ℕ). reward_line x.name (g r) ++ ys) (rewards_like xs (suc r) f g (λ q l k. h q (omega (arith, l)) (omega (arith, k))))
