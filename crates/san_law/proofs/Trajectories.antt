-- The run of a core is the trajectory.
use Rattle.std.proofs.Common.{ℕ, zero, suc, ◌+◌, ◌-◌, ◌<◌, ◌≤◌, ◌≡◌, ◌∙◌, ap, refl, subst, List, [], ◌∷◌, ◌++◌, length, Option, Some, None, arith}
use Rattle.san_law.specs.Net.{Net}
use Rattle.san_law.specs.State.{State}
use Rattle.san_law.specs.Step.{End, Ending, Event, Happened, Over, Stepped, step}
use Rattle.san_law.specs.Trajectory.{Runs, Trajectory, followed_by, ran_by, ran_on, run, trajectory}
use Rattle.san_law.specs.Order.{Finished, Need, Needs, need_of}
use Rattle.san_law.specs.Core.{Core}
use Rattle.san_law.specs.Lawful.{IsLawful}
use Rattle.san_law.specs.Standing.{Follows, follows_by}
use Rattle.san_law.specs.Pieces.{end_of, ended_by}
use Rattle.san_law.specs.Laws.{EventsArePrefix, FinishIsTrajectory, HasTrajectory, OutcomeIsTrajectory, RestIsTrajectory, StopIsTrajectory}
use Rattle.san_law.proofs.Steps.{counted, runs_within}
use Rattle.san_law.proofs.Standing.{finish_is_run, stop_is_run}

ran_more : (x : Stepped) (s : State) (f g : State → Option Trajectory) (y : Trajectory) → ((z : Trajectory) → f s ≡ Some z → g s ≡ Some z) → ran_by x f s ≡ Some y → ran_by x g s ≡ Some y
ran_more (Over time e) s f g y h is = is
ran_more (Happened e) s f g y h is = on_more (f s) refl is
  where
    on_more : (a : Option Trajectory) → f s ≡ a → ran_on e a ≡ Some y → ran_on e (g s) ≡ Some y
    on_more None same is = cc
    on_more (Some z) same is = ap (ran_on e) (h z same) ∙ is

-- more steps than a run has change nothing
run_more : (net : Net) (n m : ℕ) (s : State) (y : Trajectory) → n ≤ m → run net n s ≡ Some y → run net m s ≡ Some y
run_more net zero m s y h is = cc
run_more net (suc n) zero s y h is = absurd (omega (arith, h))
run_more net (suc n) (suc m) s y h is = ran_more (step net s).0 (step net s).1 (run net n) (run net m) y (λ z e. run_more net n m (step net s).1 z (omega (arith, h)) e) is

pub stop_is_trajectory : (net : Net) → StopIsTrajectory net
stop_is_trajectory net opening past c e is h =
    let k = subst (follows_by net opening past c) is h in
    let l = (runs_within net opening k.0 (past ++ c.events) k.1.runs).0 in
    run_more net (suc (length (past ++ c.events))) (suc (net.limit - opening.count)) opening (record { events = past ++ c.events; time = c.order.time; ending = e }) (omega (arith, l)) (stop_is_run net opening past c e is h)

pub finish_is_trajectory : (net : Net) → IsLawful net → FinishIsTrajectory net
finish_is_trajectory net law opening past c unstopped need h =
    let k = subst (follows_by net opening past c) unstopped h in
    let l = (runs_within net opening k.0 (past ++ c.events) k.1.runs).0 in
    run_more net (suc (length (past ++ c.events))) (suc (net.limit - opening.count)) opening (record { events = past ++ c.events; time = net.horizon; ending = End }) (omega (arith, l)) (finish_is_run net law opening past c unstopped need h)

-- every run comes to an ending
ran_some : (e : Event) (o : Option Trajectory) → (t : Trajectory) × (o ≡ Some t) → (t : Trajectory) × (ran_on e o ≡ Some t)
ran_some e o (t, is) = (record { events = e ∷ t.events; time = t.time; ending = t.ending }, ap (ran_on e) is)

some_by : (net : Net) (n : ℕ) (s : State) (x : Stepped) → net.limit - s.count < suc n → (step net s).0 ≡ x → (net.limit - (step net s).1.count < n → (t : Trajectory) × (run net n (step net s).1 ≡ Some t)) → (t : Trajectory) × (ran_by x (run net n) (step net s).1 ≡ Some t)
some_by net n s (Over time e) h is go = (record { events = []; time = time; ending = e }, refl)
some_by net n s (Happened e) h is go = let k = counted net s e is in ran_some e (run net n (step net s).1) (go (omega (arith, h, k.below, k.count)))

run_some : (net : Net) (n : ℕ) (s : State) → net.limit - s.count < n → (t : Trajectory) × (run net n s ≡ Some t)
run_some net zero s h = absurd (omega (arith, h))
run_some net (suc n) s h = some_by net n s (step net s).0 h refl (run_some net n (step net s).1)

pub has_trajectory : (net : Net) → HasTrajectory net
has_trajectory net s = run_some net (suc (net.limit - s.count)) s (omega arith)

-- a run, and what comes after it
run_prefix : (net : Net) (n : ℕ) (s t : State) (es : List Event) (rest : Trajectory) → Runs net s es t → run net n t ≡ Some rest → run net (length es + n) s ≡ Some (followed_by es rest)
run_prefix net n s t [] rest runs is = let z : 0 + n ≡ n = omega arith in ap (λ m. run net m s) z ∙ (ap (run net n) runs ∙ is)
run_prefix net n s t (e ∷ es) rest runs is =
    let z : length (e ∷ es) + n ≡ suc (length es + n) = omega arith in
    ap (λ m. run net m s) z
    ∙ (ap (λ x. ran_by x (run net (length es + n)) (step net s).1) runs.0
    ∙ ap (ran_on e) (run_prefix net n (step net s).1 t es rest runs.1 is))

pub rest_is_trajectory : (net : Net) → RestIsTrajectory net
rest_is_trajectory net s t es rest runs is =
    let k = runs_within net s t es runs in
    run_more net (length es + suc (net.limit - t.count)) (suc (net.limit - s.count)) s (followed_by es rest) (omega (arith, k.0, k.1)) (run_prefix net (suc (net.limit - t.count)) s t es rest runs is)

-- the outcome of a core
stop_pair : (a b : ℕ) (d e : Ending) → ◌≡◌ {A = Option (ℕ × Ending)} (Some (a, d)) (Some (b, e)) → (a ≡ b) × (d ≡ e)
stop_pair a b d e is = (ap time_in is, ap ending_in is)
  where
    time_in : Option (ℕ × Ending) → ℕ
    time_in None = 0
    time_in (Some x) = x.0

    ending_in : Option (ℕ × Ending) → Ending
    ending_in None = End
    ending_in (Some x) = x.1

abbrev Came : Net → State → List Event → Core → ℕ → Ending → Type 0
Came net opening past c time e = trajectory net opening ≡ Some (record { events = past ++ c.events; time = time; ending = e })

came_with : (net : Net) (opening : State) (past : List Event) (c : Core) (a b : ℕ) (d e : Ending) → ◌≡◌ {A = Option (ℕ × Ending)} (Some (a, d)) (Some (b, e)) → Came net opening past c a d → Came net opening past c b e
came_with net opening past c a b d e is h =
    let k = stop_pair a b d e is in
    subst (λ t. Came net opening past c t e) k.0 (subst (Came net opening past c a) k.1 h)

outcome_need : (net : Net) → IsLawful net → (opening : State) (past : List Event) (c : Core) (time : ℕ) (e : Ending) (n : Need) → c.stop ≡ None → need_of net.horizon c.order ≡ n → end_of net n ≡ Some (time, e) → Follows net opening past c → Came net opening past c time e
outcome_need net law opening past c time e Finished stop need is h = came_with net opening past c net.horizon time End e is (finish_is_trajectory net law opening past c stop need h)
outcome_need net law opening past c time e (Needs j kind at) stop need is h = cc

outcome_by : (net : Net) → IsLawful net → (opening : State) (past : List Event) (c : Core) (time : ℕ) (e : Ending) (o : Option Ending) → c.stop ≡ o → ended_by net c o ≡ Some (time, e) → Follows net opening past c → Came net opening past c time e
outcome_by net law opening past c time e None stop is h = outcome_need net law opening past c time e (need_of net.horizon c.order) stop refl is h
outcome_by net law opening past c time e (Some x) stop is h = came_with net opening past c c.order.time time x e is (stop_is_trajectory net opening past c x stop h)

pub outcome_is_trajectory : (net : Net) → IsLawful net → OutcomeIsTrajectory net
outcome_is_trajectory net law opening past c time e is h = outcome_by net law opening past c time e c.stop refl is h

-- a core's events are the first of the trajectory
prefix_from : (net : Net) (opening s : State) (es : List Event) → Runs net opening es s → (rest : Trajectory) × (trajectory net opening ≡ Some (followed_by es rest))
prefix_from net opening s es runs = let t = has_trajectory net s in (t.0, rest_is_trajectory net opening s es t.0 runs t.1)

prefix_by : (net : Net) (opening : State) (past : List Event) (c : Core) (o : Option Ending) → follows_by net opening past c o → (rest : Trajectory) × (trajectory net opening ≡ Some (followed_by (past ++ c.events) rest))
prefix_by net opening past c None h = prefix_from net opening h.0 (past ++ c.events) h.1.runs
prefix_by net opening past c (Some e) h = prefix_from net opening h.0 (past ++ c.events) h.1.runs

pub events_are_prefix : (net : Net) → EventsArePrefix net
events_are_prefix net opening past c h = prefix_by net opening past c c.stop h
