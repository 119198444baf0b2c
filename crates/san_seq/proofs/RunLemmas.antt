-- A run and the rest of it.
use Rattle.std.proofs.Common.{ℕ, suc, ◌+◌, ◌-◌, ◌<◌, ◌≤◌, ◌≡◌, ◌∙◌, ap, sym, refl, subst, arith, List, [], ◌∷◌, ◌++◌, Option, Some, None, Result, Ok, Err, append_assoc, append-nil}
use Rattle.std.specs.Option.{option_map}
use Rattle.san_base.specs.declared.ending.Ending.{Ending}
use Rattle.san_base.specs.declared.ending.Event.{Event}
use Rattle.san_law.proofs.Steps.{counted}
use Rattle.san_law.proofs.Trajectories.{has_trajectory}
use Rattle.san_law.specs.Net.{Net}
use Rattle.san_law.specs.State.{State}
use Rattle.san_law.specs.Step as law
use Rattle.san_law.specs.Trajectory as whole
use Rattle.san_net.specs.Network.{Network}
use Rattle.san_seq.specs.FlatRun.{Done, RunPhase, HasRest, On, Run, TellsPrefix, after_step, ahead, left_by, net_in, rest_by, rest_of, step_of, stepped, steps_at, steps_left}
use Rattle.san_net.specs.Runs.{ending_in, event_in}
use Rattle.san_seq.specs.Outcomes.{event_or_ending, trajectory_in}
use Rattle.san_seq.specs.declared.steps.Trajectory.{Trajectory}

same_event : (a b : Event) → (let r : Result Event Ending = Ok a in r) ≡ Ok b → a ≡ b
same_event a b e = cc

pub same_ending : (a b : Ending) → (let r : Result Event Ending = Err a in r) ≡ Err b → a ≡ b
same_ending a b e = cc

ran_ahead : (n : Network) (e : law.Event) (o : Option whole.Trajectory) → option_map (trajectory_in n) (whole.ran_on e o) ≡ ahead (event_in n e ∷ []) (option_map (trajectory_in n) o)
ran_ahead n e None = refl
ran_ahead n e (Some t) = refl

-- a step that tells an event leaves the rest of the run, with fewer steps
pub record GoesOn (n : Network) (net : Net) (limit : ℕ) (g : RunPhase) (e : Event) : Type 0 where
  pub rest : rest_by n net g ≡ ahead (e ∷ []) (rest_by n net (stepped n net g).1)
  pub fewer : suc (steps_at limit (stepped n net g).1) ≤ steps_at limit g

by_step : (n : Network) (net : Net) (s : State) (e : Event) (x : law.Stepped) → (law.step net s).0 ≡ x → event_or_ending n x ≡ Ok e → GoesOn n net net.limit (On s) e
by_step n net s e (law.Over time ending) is answered = absurd cc
by_step n net s e (law.Happened ev) is answered =
    let k = counted net s ev is in
    let t = (law.step net s).1 in
    let left : left_by n (law.step net s) ≡ On t = ap (λ (x : law.Stepped). left_by n (x, t)) is in
    let fuel : net.limit - s.count ≡ suc (net.limit - t.count) = omega (arith, k.below, k.count) in
    let went : whole.trajectory net s ≡ whole.ran_on ev (whole.trajectory net t) =
    ap (λ (m : ℕ). whole.run net (suc m) s) fuel ∙ ap (λ (x : law.Stepped). whole.ran_by x (whole.run net (suc (net.limit - t.count))) t) is in
    let events : event_in n ev ≡ e = same_event (event_in n ev) e answered in
    record {
      rest =
          ap (option_map (trajectory_in n)) went
          ∙ ran_ahead n ev (whole.trajectory net t)
          ∙ ap (λ (x : Event). ahead (x ∷ []) (option_map (trajectory_in n) (whole.trajectory net t))) events
          ∙ ap (λ (g : RunPhase). ahead (e ∷ []) (rest_by n net g)) (sym left);
      fewer = subst (λ (g : RunPhase). suc (steps_at net.limit g) ≤ suc (net.limit - s.count)) (sym left) (omega (arith, fuel));
    }

goes_by : (n : Network) (net : Net) (g : RunPhase) (e : Event) → (stepped n net g).0 ≡ Ok e → GoesOn n net net.limit g e
goes_by n net (On s) e answered = by_step n net s e (law.step net s).0 refl answered
goes_by n net (Done marking ending) e answered = absurd cc

pub goes_on : (r : Run) (e : Event) → (step_of r).0 ≡ Ok e → GoesOn r.network (net_in r) r.limits.events r.run_phase e
goes_on r e answered = goes_by r.network (net_in r) r.run_phase e answered

ends_by_step : (n : Network) (net : Net) (s : State) (e : Ending) (x : law.Stepped) → (law.step net s).0 ≡ x → event_or_ending n x ≡ Err e
    → option_map (trajectory_in n) (whole.trajectory net s) ≡ Some (record { events = []; ending = e })
ends_by_step n net s e (law.Happened ev) is answered = absurd cc
ends_by_step n net s e (law.Over time ending) is answered =
    ap (λ (x : law.Stepped). option_map (trajectory_in n) (whole.ran_by x (whole.run net (net.limit - s.count)) (law.step net s).1)) is
    ∙ ap (λ (x : Ending). (let o : Option Trajectory = Some (record { events = []; ending = x }) in o)) (same_ending (ending_in n time ending) e answered)

ends_by : (n : Network) (net : Net) (g : RunPhase) (e : Ending) → (stepped n net g).0 ≡ Err e → rest_by n net g ≡ Some (record { events = []; ending = e })
ends_by n net (On s) e answered = ends_by_step n net s e (law.step net s).0 refl answered
ends_by n net (Done marking ending) e answered = ap (λ (x : Ending). (let o : Option Trajectory = Some (record { events = []; ending = x }) in o)) (same_ending ending e answered)

-- a step that tells the ending comes after all events
pub run_ends : (r : Run) (e : Ending) → (step_of r).0 ≡ Err e → rest_of r ≡ Some (record { events = []; ending = e })
run_ends r e answered = ends_by r.network (net_in r) r.run_phase e answered

pub ahead_ahead : (xs ys : List Event) (o : Option Trajectory) → ahead xs (ahead ys o) ≡ ahead (xs ++ ys) o
ahead_ahead xs ys None = refl
ahead_ahead xs ys (Some t) = ap (λ (es : List Event). (let o : Option Trajectory = Some (record { events = es; ending = t.ending }) in o)) (sym (append_assoc xs ys t.events))

pub ahead_none : (o : Option Trajectory) → ahead [] o ≡ o
ahead_none None = refl
ahead_none (Some t) = refl

-- the events of a loop of steps, and what is left
pub ahead_more : (events : List Event) (r s all : Run) (e : Event) → (step_of r).0 ≡ Ok e → s ≡ after_step r → ahead events (rest_of r) ≡ rest_of all → ahead (events ++ e ∷ []) (rest_of s) ≡ rest_of all
ahead_more events r s all e answered is so =
    ap (λ (x : Run). ahead (events ++ e ∷ []) (rest_of x)) is
    ∙ sym (ahead_ahead events (e ∷ []) (rest_of (after_step r)))
    ∙ ap (ahead events) (sym (goes_on r e answered).rest)
    ∙ so

pub ahead_ends : (events : List Event) (r all : Run) (e : Ending) → (step_of r).0 ≡ Err e → ahead events (rest_of r) ≡ rest_of all → Some (record { events = events; ending = e }) ≡ rest_of all
ahead_ends events r all e answered so =
    ap (λ (es : List Event). (let o : Option Trajectory = Some (record { events = es; ending = e }) in o)) (sym (append-nil events))
    ∙ ap (ahead events) (sym (run_ends r e answered))
    ∙ so

pub fewer_left : (r s : Run) (e : Event) → (step_of r).0 ≡ Ok e → s ≡ after_step r → steps_left s < steps_left r
fewer_left r s e answered is = subst (λ (x : Run). steps_left x < steps_left r) (sym is) (omega (arith, (goes_on r e answered).fewer))

-- what steps answered is the beginning of the whole
pub tells_prefix : (r : Run) → TellsPrefix r
tells_prefix r t [] tells = record { rest = sym (ahead_none (rest_of r)) ∙ ap (λ (x : Run). ahead [] (rest_of x)) tells; few = subst (λ (x : Run). 0 + steps_left x ≤ steps_left r) tells (omega arith) }
tells_prefix r t (e ∷ es) tells =
    let on = goes_on r e tells.0 in
    let more = tells_prefix (after_step r) t es tells.1 in
    record {
      rest = on.rest ∙ ap (ahead (e ∷ [])) more.rest ∙ ahead_ahead (e ∷ []) es (rest_of t);
      few = omega (arith, on.fewer, more.few);
    }

rest_some : (n : Network) (o : Option whole.Trajectory) (t : whole.Trajectory) → o ≡ Some t → (u : Trajectory) × (option_map (trajectory_in n) o ≡ Some u)
rest_some n o t is = (trajectory_in n t, ap (option_map (trajectory_in n)) is)

has_by : (n : Network) (net : Net) (g : RunPhase) → (t : Trajectory) × (rest_by n net g ≡ Some t)
has_by n net (On s) = let t = has_trajectory net s in rest_some n (whole.trajectory net s) t.0 t.1
has_by n net (Done marking e) = (record { events = []; ending = e }, refl)

pub has_rest : (r : Run) → HasRest r
has_rest r = has_by r.network (net_in r) r.run_phase
