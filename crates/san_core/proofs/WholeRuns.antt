-- A machine that began with the run and has ended tells the whole run.
use Rattle.std.proofs.Common.{ℕ, ◌<◌, ◌≡◌, ◌≢◌, ◌∙◌, ap, sym, refl, subst, List, [], length, map, Option, Some, None}
use Rattle.std.proofs.lemmas.List.{length-map}
use Rattle.san_base.specs.declared.ending.Ending as named
use Rattle.san_law.specs.Activity as leaf
use Rattle.san_law.specs.Core.{Core, after_pieces}
use Rattle.san_law.specs.Lawful.{IsLaid, IsLawful}
use Rattle.san_law.specs.Net.{Net}
use Rattle.san_law.specs.Opening.{opening_core}
use Rattle.san_law.specs.Order.{Finished, Need, Needs, need_of}
use Rattle.san_law.specs.Pieces.{end_of, ended_by, outcome_of_core}
use Rattle.san_law.specs.Rates.{with_rates}
use Rattle.san_law.specs.Reward.{worth}
use Rattle.san_law.specs.Standing.{Follows}
use Rattle.san_law.specs.State.{opening_state}
use Rattle.san_law.specs.Step.{End, Ending}
use Rattle.san_law.specs.Tally.{Tally, tally_worth}
use Rattle.san_law.proofs.AnyRates.{opens_at_any_rates}
use Rattle.san_law.proofs.Rewards.{tally_is_worth}
use Rattle.san_law.proofs.Trajectories.{outcome_is_trajectory}
use Rattle.san_net.specs.Leaf as net
use Rattle.san_net.specs.Network.{Network}
use Rattle.san_net.specs.Runs.{limits_in, net_at}
use Rattle.san_base.specs.declared.ending.Event.{Event}
use Rattle.san_base.specs.declared.limits.Limits.{Limits}
use Rattle.san_draw.specs.Key.{draw_of}
use Rattle.san_core.specs.Committed.{CommittedValue}
use Rattle.san_core.specs.Redone.{IsSameRun}
use Rattle.san_core.proofs.Knowing.{Known}
use Rattle.san_reward.specs.Running as rewards
use Rattle.san_reward.specs.Running.{Running, no_rates}
use Rattle.san_reward.proofs.Sameness.{worth_same}
use Rattle.san_core.specs.Machines.{FollowsRun, MachineValue, core_in, net_in, opened}
use Rattle.san_core.specs.Nets.{outcome_in}
use Rattle.san_core.specs.Whole.{IsWholeRun}

-- a core whose outcome is the end has no stop but that, and else needs nothing
abbrev ending_or : Ending → Option (ℕ × Ending) → Ending
ending_or e None = e
ending_or e (Some x) = x.1

is_finished : (net : Net) (x : Need) (time : ℕ) (e : Ending) → end_of net x ≡ Some (time, e) → x ≡ Finished
is_finished net (Needs j kind t) time e is = absurd cc
is_finished net Finished time e is = refl

pub record HasFinished (net : Net) (c : Core) : Type 0 where
  pub going : c.stop ≡ None
  pub need : need_of net.horizon c.order ≡ Finished

finished_by : (net : Net) (c : Core) (s : Option Ending) (time : ℕ) → c.stop ≡ s → ended_by net c s ≡ Some (time, End) → s ≢ Some End → HasFinished net c
finished_by net c None time at is other = record { going = at; need = is_finished net (need_of net.horizon c.order) time End is }
finished_by net c (Some e) time at is other = absurd (other (ap (λ (x : Ending). (let o : Option Ending = Some x in o)) (ap (ending_or e) is)))

module _ (m : MachineValue) (run : FollowsRun m) (lawful : IsLawful (net_in m)) (laid : IsLaid (net_in m) (length m.network.initial))
    (first : m.start.core ≡ with_rates (map no_rates m.network.parts) (opening_core (net_in m))) (no_end : m.held.core.stop ≢ Some End) where
  abbrev here : Net
  here = net_in m

  abbrev c : Core
  c = core_in m

  rates_long : length (map no_rates m.network.parts) ≡ length here.parts
  rates_long = length-map m.network.parts no_rates ∙ sym (length-map (map net.leaf_of m.network.parts) (λ (q : leaf.Part). q.slots) ∙ length-map m.network.parts net.leaf_of)

  follows : Follows here (opening_state here) [] c
  follows = subst (λ (x : Core). Follows here (opening_state here) [] (after_pieces here m.taken x)) (sym first) (opens_at_any_rates here lawful laid (map no_rates m.network.parts) rates_long m.taken)

  stop_held : m.held.core.stop ≡ c.stop
  stop_held = ap (λ (x : Core). x.stop) run.held

  not_end : c.stop ≢ Some End
  not_end is = no_end (stop_held ∙ is)

  abbrev ending_of : named.Ending → Option named.Ending → named.Ending
  ending_of e None = e
  ending_of e (Some x) = x

  abbrev IsWholeHere : named.Ending → Type 0
  IsWholeHere e = IsWholeRun here m.network m.events e m.held.running

  worth_is : (r : ℕ) → HasFinished here c → r < length here.spans → tally_worth (rewards.net_in m.held.running) m.held.running.tally m.held.running.time r ≡ worth here r (opening_state here) c.events
  worth_is r fin within =
      sym (worth_same here m.held.running run.belongs.of r)
      ∙ (ap (λ (t : Tally). tally_worth here t m.held.running.time r) (run.belongs.tally ∙ ap (λ (x : Core). x.tally) run.held)
      ∙ (ap (λ (t : ℕ). tally_worth here c.tally t r) (run.belongs.time ∙ ap (λ (x : Core). x.order.time) run.held)
      ∙ tally_is_worth here (opening_state here) [] c fin.going fin.need follows r within))

  whole_by : (e : named.Ending) (x : Option (ℕ × Ending)) → outcome_of_core here c ≡ x → Some e ≡ outcome_in m.network x → IsWholeHere e
  whole_by e None at is = absurd cc
  whole_by e (Some (time, le)) at is = record {
    run = record { events = c.events; time = time; ending = le };
    is = outcome_is_trajectory here lawful (opening_state here) [] c time le at follows;
    told = run.events;
    ended = ap (ending_of e) is;
    spans = sym run.belongs.of.spans;
    worths = λ end r within. worth_is r (finished_by here c c.stop time refl (at ∙ ap (λ (y : Ending). (let o : Option (ℕ × Ending) = Some (time, y) in o)) end) not_end) within;
  }

  pub whole : (e : named.Ending) → Some e ≡ outcome_in m.network (outcome_of_core here c) → IsWholeHere e
  whole e is = whole_by e (outcome_of_core here c) refl is

-- the machine as it is seen
pub whole_seen : (m v : MachineValue) → m ≡ v → FollowsRun m → Known m.network → v.start.core ≡ with_rates (map no_rates v.network.parts) (opening_core (net_in v)) → m.held.core.stop ≢ Some End
    → (events : List Event) (e : named.Ending) (tally : Running) → events ≡ m.events → tally ≡ m.held.running → Some e ≡ outcome_in v.network (outcome_of_core (net_in v) (core_in v)) → IsWholeRun (net_in v) v.network events e tally
whole_seen m v is run k first no_end events e tally told counted ended =
    let first_here : m.start.core ≡ with_rates (map no_rates m.network.parts) (opening_core (net_in m)) = subst (λ (x : MachineValue). x.start.core ≡ with_rates (map no_rates x.network.parts) (opening_core (net_in x))) (sym is) first in
    let ended_here : Some e ≡ outcome_in m.network (outcome_of_core (net_in m) (core_in m)) = subst (λ (x : MachineValue). Some e ≡ outcome_in x.network (outcome_of_core (net_in x) (core_in x))) (sym is) ended in
    subst (λ (x : MachineValue). IsWholeRun (net_in x) x.network events e tally) is
    (subst (λ (es : List Event). IsWholeRun (net_in m) m.network es e tally) (sym told)
    (subst (λ (t : Running). IsWholeRun (net_in m) m.network m.events e t) (sym counted)
    (whole m run (k.lawful (draw_of m.seed) (limits_in m.limits)) (k.laid (draw_of m.seed) (limits_in m.limits)) first_here no_end e ended_here)))

-- a machine that was opened over the first start, and has gone on
abbrev pub HasFirst : Network → ℕ → Limits → CommittedValue → Type 0
HasFirst n seed limits s = s.core ≡ with_rates (map no_rates n.parts) (opening_core (net_at n seed limits))

module _ (n : Network) (seed : ℕ) (limits : Limits) (s : CommittedValue) (a b : MachineValue) (is : a ≡ opened n seed limits s) (same : IsSameRun a b) where
  network_is : b.network ≡ n
  network_is = same.network ∙ ap (λ (x : MachineValue). x.network) is

  seed_is : b.seed ≡ seed
  seed_is = same.seed ∙ ap (λ (x : MachineValue). x.seed) is

  limits_is : b.limits ≡ limits
  limits_is = same.limits ∙ ap (λ (x : MachineValue). x.limits) is

  start_is : b.start ≡ s
  start_is = same.start ∙ ap (λ (x : MachineValue). x.start) is

  pub first_of_run : HasFirst n seed limits s → HasFirst b.network b.seed b.limits b.start
  first_of_run h =
      subst (λ (y : Network). HasFirst y b.seed b.limits b.start) (sym network_is)
      (subst (λ (y : ℕ). HasFirst n y b.limits b.start) (sym seed_is)
      (subst (λ (y : Limits). HasFirst n seed y b.start) (sym limits_is)
      (subst (λ (y : CommittedValue). HasFirst n seed limits y) (sym start_is) h)))

  pub whole_of_run : (events : List Event) (e : named.Ending) (tally : Running) → IsWholeRun (net_in b) b.network events e tally → IsWholeRun (net_at n seed limits) n events e tally
  whole_of_run events e tally h =
      subst (λ (y : Network). IsWholeRun (net_at y seed limits) y events e tally) network_is
      (subst (λ (y : ℕ). IsWholeRun (net_at b.network y limits) b.network events e tally) seed_is
      (subst (λ (y : Limits). IsWholeRun (net_at b.network b.seed y) b.network events e tally) limits_is h))
