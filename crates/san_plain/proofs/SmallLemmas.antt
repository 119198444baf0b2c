-- The worths of a run are small: the impulses of its events are values of terms, and they are few.
use Rattle.std.proofs.Common.{ℕ, zero, suc, ◌*◌, ◌≤◌, ◌≡◌, ◌∙◌, sym, refl, subst, arith, List, [], ◌∷◌, ◌++◌, All, filter, map, Option, Some, Bool, true, false, cond, nat_eq, slice_index_or}
use Rattle.san_base.specs.declared.ending.Ending.{Ending}
use Rattle.san_base.specs.declared.limits.TheConstants.{MAX_EVENTS, MAX_EVENT_IMPULSES, MAX_RATED}
use Rattle.san_draw.specs.Key.{draw_of}
use Rattle.san_expr.specs.Value.{value_of}
use Rattle.san_law.proofs.Orders.{runs_append}
use Rattle.san_law.proofs.Steps.{runs_few, runs_within}
use Rattle.san_law.specs.Activity as leaf
use Rattle.san_law.specs.Net.{Impulse, Net}
use Rattle.san_law.specs.Network.{Limits, no_part}
use Rattle.san_law.specs.Reward as law
use Rattle.san_law.specs.State.{State, opening_state}
use Rattle.san_law.specs.Step as step
use Rattle.san_law.specs.Tally as tally
use Rattle.san_law.specs.Trajectory.{Runs}
use Rattle.san_net.proofs.LaidLemmas.{lawful}
use Rattle.san_net.specs.Instants.{Named}
use Rattle.san_net.specs.Laid.{IsNetwork}
use Rattle.san_net.specs.Leaf.{activities_from, impulse_in, impulses_in, leaf_of}
use Rattle.san_net.specs.Network.{Network, net_of}
use Rattle.san_net.specs.Runs.{limits_in}
use Rattle.san_net.specs.declared.atomic.ImpulseTerm.{ImpulseTerm}
use Rattle.san_net.specs.declared.part.Part.{Part}
use Rattle.san_net.specs.declared.part.Reward.{Reward}
use Rattle.san_reward.proofs.SmallWorths.{rated_small, small_worth}
use Rattle.san_reward.specs.Smallness.{AreRated, IsAtMost, IsSmallWorth}
use Rattle.san_reward.specs.Worth.{worth_of}
use Rattle.san_reward.specs.declared.worth.Worth.{Worth}
use Rattle.san_seq.proofs.ReachLemmas.{events_in_time}
use Rattle.san_plain.specs.Measures.{AreSmallWorths, IsSmallSum, Measured, measured_by, measured_of, worths_from}
use Rattle.san_plain.specs.Reports.{Opened, net_by, worth_at}
use Rattle.san_plain.specs.declared.counted.CountedRun.{CountedRun}
use Rattle.san_plain.specs.inner.Progress.{Ends, RunStands}
use Rattle.san_plain.proofs.MeasureLemmas.{ran}

-- an activity's impulses
abbrev AreAmounts : List Impulse → Type 0
AreAmounts xs = All (λ i. IsAtMost MAX_RATED i.rated) xs

amount_more : (x : Impulse) (xs : List Impulse) → IsAtMost MAX_RATED x.rated → AreAmounts xs → AreAmounts (x ∷ xs)
amount_more x xs h all = each
  where
    each : AreAmounts (x ∷ xs)
    each zero d l = h
    each (suc k) d l = all k d (omega (arith, l))

no_amounts : AreAmounts []
no_amounts = λ k d l. absurd (omega (arith, l))

terms_rated : (terms : List ImpulseTerm) (k : ℕ) (v : List ℕ) → AreAmounts (impulses_in terms k v)
terms_rated [] k v = no_amounts
terms_rated (t ∷ ts) k v = by_test (nat_eq t.act k) (terms_rated ts k v)
  where
    by_test : (b : Bool) → AreAmounts (impulses_in ts k v) → AreAmounts (map (impulse_in v) (cond b (t ∷ filter (λ (x : ImpulseTerm). nat_eq x.act k) ts) (filter (λ (x : ImpulseTerm). nat_eq x.act k) ts)))
    by_test true h = amount_more (impulse_in v t) (impulses_in ts k v) (rated_small (value_of t.expr v).answer) h
    by_test false h = h

acts_rated : (terms : List ImpulseTerm) (n : ℕ) (acts : List Named) (k : ℕ) (v : List ℕ) → AreAmounts ((slice_index_or (activities_from terms n acts) k leaf.no_activity).impulses v)
acts_rated terms n [] k v = no_amounts
acts_rated terms n (a ∷ acts) zero v = terms_rated terms n v
acts_rated terms n (a ∷ acts) (suc k) v = acts_rated terms (suc n) acts k v

leaves_rated : (parts : List Part) (j k : ℕ) (v : List ℕ) → AreAmounts ((leaf.activity_of (slice_index_or (map leaf_of parts) j no_part) k).impulses v)
leaves_rated [] j k v = no_amounts
leaves_rated (p ∷ parts) zero k v = acts_rated p.atomic.impulses 0 p.atomic.acts k v
leaves_rated (p ∷ parts) (suc j) k v = leaves_rated parts j k v

-- a run's events, behind those that came before
module _ (n : Network) (known : IsNetwork n) (draw : ℕ → ℕ → ℕ) (bounds : Limits) where
  abbrev net : Net
  net = net_of n draw bounds

  events_rated : (past es : List step.Event) (s t : State) → Runs net (opening_state net) past s → Runs net s es t → AreRated es
  events_rated past [] s t before runs = tt
  events_rated past (e ∷ es) s t before runs =
      let next = (step.step net s).1 in (
        subst AreAmounts (sym (events_in_time n known draw bounds past s e before runs.0).impulses) (leaves_rated n.parts e.leaf e.act _),
        events_rated (past ++ e ∷ []) es next t (runs_append net (opening_state net) s next past (e ∷ []) before (runs.0, refl)) runs.1,
      )

  pub run_rated : (es : List step.Event) (s : State) → Runs net (opening_state net) es s → AreRated es
  run_rated es s runs = events_rated [] es (opening_state net) s refl runs

-- its rewards
sum_small : (w : law.Worth) → IsSmallWorth w → IsSmallSum (Some (worth_of w))
sum_small (law.Sum x) h = h
sum_small (law.Mean x ticks) h = h
sum_small law.Faulted h = tt
sum_small law.Beyond h = tt

worths_small : (xs : List Reward) (r : ℕ) (w : ℕ → Option Worth) → ((q : ℕ) → IsSmallSum (w q)) → AreSmallWorths (worths_from xs r w)
worths_small [] r w h q = tt
worths_small (x ∷ xs) r w h zero = h r
worths_small (x ∷ xs) r w h (suc q) = worths_small xs (suc r) w h q

module _ (o : Opened) (es : List step.Event) (s : State) (c : CountedRun) (st : RunStands o es s c) (e : Ending) (new : CountedRun) (ends : Ends o s e c new) where
  few : tally.impulses_in es ≤ MAX_EVENTS * MAX_EVENT_IMPULSES
  few =
      let net = net_by o in
      let each = runs_few net (lawful o.network st.known (draw_of o.seed) (limits_in o.limits)) (opening_state net) s es st.runs in
      let many = (runs_within net (opening_state net) s es st.runs).0 in
      omega (arith, each, many, st.range.events_in_range.1)

  worth_small : (why : step.Ending) (r : ℕ) → IsSmallSum (worth_at (net_by o) es why r)
  worth_small step.End r =
      sum_small (law.worth (net_by o) r (opening_state (net_by o)) es)
      (small_worth o.network (draw_of o.seed) (limits_in o.limits) (opening_state (net_by o)) es r st.known few (run_rated o.network st.known (draw_of o.seed) (limits_in o.limits) es s st.runs))
  worth_small step.Unstable r = tt
  worth_small step.Events r = tt
  worth_small (step.Trapped j k trap) r = tt

  pub measured_small : (ws : List (Option Worth)) → measured_of o ≡ Some (record { ending = e; worths = ws }) → AreSmallWorths ws
  measured_small ws is =
      let same = some_measured (measured_by o.network (net_by o) (record { events = es; time = ends.time; ending = ends.why })) (record { ending = e; worths = ws }) (sym (ran o es s c st e new ends) ∙ is) in
      subst (λ (m : Measured). AreSmallWorths m.worths) same (worths_small o.network.rewards 0 (worth_at (net_by o) es ends.why) (worth_small ends.why))
    where
      some_measured : (a b : Measured) → (let x : Option Measured = Some a in x) ≡ Some b → a ≡ b
      some_measured a b e = cc
