-- The parts of a step are the law's, and leave a state of a run.
use Rattle.san_base.proofs.NumberTests.{number_within}
use Rattle.std.proofs.Common.{ℕ, ◌+◌, ◌≤◌, ◌<◌, ◌≡◌, ◌∙◌, ap, sym, refl, subst, arith, length, Option, Some, None, Result, Ok, Err, IfOk, Bool, true, false, nat_lt, cond}
use Rattle.std.proofs.lemmas.Bool.{ltb-true}
use Rattle.san_base.specs.declared.ending.Ending.{Ending}
use Rattle.san_base.specs.declared.ending.Event.{Event}
use Rattle.san_base.specs.declared.limits.Limits.{Limits}
use Rattle.san_law.proofs.Steps.{count_room, limit_room}
use Rattle.san_law.specs.Net.{Net}
use Rattle.san_law.specs.Renewal.{Due}
use Rattle.san_law.specs.State.{State, local_of}
use Rattle.san_law.specs.Next.{Next, next_instant}
use Rattle.san_law.specs.Step as law
use Rattle.san_net.specs.Network.{Network, net_of}
use Rattle.san_net.specs.Runs.{ending_in, limits_in}
use Rattle.san_seq.specs.inner.States.{instant_in}
use Rattle.san_seq.specs.inner.Running.{IsDrawn, IsRunning, Steps, with_rows}
use Rattle.san_seq.specs.Outcomes.{event_or_ending}
use Rattle.san_seq.proofs.AnswerLemmas.{Happening, happened, happening_by}
use Rattle.san_seq.proofs.RunningLemmas.{by_done}

pub any_ok : (r : Result Event Ending) (P : Type 0) → P → IfOk r (λ e. P)
any_ok (Ok e) P p = p
any_ok (Err e) P p = tt

-- what is answered and left by a step that is another's
pub steps_like : (n : Network) (now : Result Event Ending) (left : State) (x y : law.Stepped × State) → now ≡ event_or_ending n x.0 → left ≡ x.1 → x ≡ y → Steps n now left y
steps_like n now left x y answered is same = record {
  answered = answered ∙ ap (λ (z : law.Stepped × State). event_or_ending n z.0) same;
  leaves = any_ok now (left ≡ y.1) (is ∙ ap (λ (z : law.Stepped × State). z.1) same);
  marking = ap (λ (z : State). z.marking) (is ∙ ap (λ (z : law.Stepped × State). z.1) same);
}

-- a timer that is due by the horizon
pub due_fires : (net : Net) (s v w : State) (d : Due) → with_rows v.rows s ≡ v → d.time ≤ net.horizon → w ≡ law.fired net v v.rows d
    → law.fire net w d.leaf d.act ≡ law.at_due net s v.rows (Some d)
due_fires net s v w d same h is =
    ap (λ (x : State). law.fire net x d.leaf d.act) is
    ∙ ap (λ (x : State). law.fire net (law.fired net x v.rows d) d.leaf d.act) (sym same)
    ∙ ap (λ (b : Bool). cond b (law.fire net (law.fired net s v.rows d) d.leaf d.act) (law.Over net.horizon law.End, s)) (sym (number_within d.time net.horizon h))

module _ (n : Network) (draw : ℕ → ℕ → ℕ) (limits : Limits) (w left : State) (j k : ℕ) (is : IsDrawn n limits (w.count + 1) w) (h : j < length w.rows) where
  timed_by : (o : Option law.Ending) → law.count_limit (net_of n draw (limits_in limits)) w.count ≡ o → (t : Happening)
      → (let s : law.Stepped × State = law.unless_over w o (law.complete (net_of n draw (limits_in limits)) w 0 j k ((net_of n draw (limits_in limits)).done j k (local_of (net_of n draw (limits_in limits)) w j))) in happening_by s.0 ≡ Ok t → IsRunning n limits s.1)
  timed_by None room t is_ok =
      by_done n draw limits w 0 j k is h (omega arith) (count_room (net_of n draw (limits_in limits)) w.count room) ((net_of n draw (limits_in limits)).done j k (local_of (net_of n draw (limits_in limits)) w j)) refl t is_ok
  timed_by (Some e) room t is_ok = absurd cc

  -- after a completion of a timer's activity
  pub timed_runs : (now : Result Event Ending) → now ≡ event_or_ending n (law.fire (net_of n draw (limits_in limits)) w j k).0
      → left ≡ (law.fire (net_of n draw (limits_in limits)) w j k).1 → IfOk now (λ e. IsRunning n limits left)
  timed_runs (Ok e) answered lefts =
      let got = happened n (law.fire (net_of n draw (limits_in limits)) w j k).0 e (sym answered) in
      subst (IsRunning n limits) (sym lefts) (timed_by (law.count_limit (net_of n draw (limits_in limits)) w.count) refl got.0 got.1)
  timed_runs (Err e) answered lefts = tt

burst_room : (net : Net) (burst count : ℕ) → law.limit_at net burst count ≡ None → burst < net.burst
burst_room net burst count e = by_test (nat_lt burst net.burst) refl e
  where
    by_test : (b : Bool) → nat_lt burst net.burst ≡ b → cond b (law.count_limit net count) (Some law.Unstable) ≡ None → burst < net.burst
    by_test true t e = ltb-true burst net.burst t
    by_test false t e = absurd cc

module _ (n : Network) (draw : ℕ → ℕ → ℕ) (limits : Limits) (w left : State) (j k : ℕ) (is : IsDrawn n limits (w.count + 1) w) (h : j < length w.rows) where
  instant_by : (o : Option law.Ending) → law.limit_at (net_of n draw (limits_in limits)) w.burst w.count ≡ o → (t : Happening)
      → (let s : law.Stepped × State = law.unless_over w o (law.complete (net_of n draw (limits_in limits)) w (w.burst + 1) j k ((net_of n draw (limits_in limits)).done j k (local_of (net_of n draw (limits_in limits)) w j))) in happening_by s.0 ≡ Ok t → IsRunning n limits s.1)
  instant_by None room t is_ok =
      let more = burst_room (net_of n draw (limits_in limits)) w.burst w.count room in
      by_done n draw limits w (w.burst + 1) j k is h (omega (arith, more)) (limit_room (net_of n draw (limits_in limits)) w.burst w.count room) ((net_of n draw (limits_in limits)).done j k (local_of (net_of n draw (limits_in limits)) w j)) refl t is_ok
  instant_by (Some e) room t is_ok = absurd cc

  -- after an instantaneous completion
  pub instant_runs : (now : Result Event Ending) → now ≡ event_or_ending n (instant_in n draw (limits_in limits) w j k).0
      → left ≡ (instant_in n draw (limits_in limits) w j k).1 → IfOk now (λ e. IsRunning n limits left)
  instant_runs (Ok e) answered lefts =
      let got = happened n (instant_in n draw (limits_in limits) w j k).0 e (sym answered) in
      subst (IsRunning n limits) (sym lefts) (instant_by (law.limit_at (net_of n draw (limits_in limits)) w.burst w.count) refl got.0 got.1)
  instant_runs (Err e) answered lefts = tt

-- a run that ends or whose next activity traps is as the law's
pub ends_like : (n : Network) (left : State) (e : Ending) (time : ℕ) (l : law.Ending) (x : law.Stepped × State) → e ≡ ending_in n time l → law.Over time l ≡ x.0 → left.marking ≡ x.1.marking → Steps n (Err e) left x
ends_like n left e time l x is answered marking = record {
  answered = ap (λ (o : Ending). (let r : Result Event Ending = Err o in r)) is ∙ ap (event_or_ending n) answered;
  leaves = tt;
  marking = marking;
}

-- a step by what completes next
pub step_is : (net : Net) (s : State) (next : Next) → next_instant net s ≡ next → law.at_next net s next ≡ law.step net s
unfolding law.step
step_is net s next e = ap (law.at_next net s) (sym e)
