-- What is kept of a run's rewards between its events: the tally, and the marking that its rates are of.
use Rattle.std.specs.Prelude.{ℕ, ◌-◌, ◌≡◌, ◌⊎◌, List, [], map, length, Option, Some, None, slice_get, slice_index}
use Rattle.san_base.specs.declared.ending.Event.{Event}
use Rattle.san_law.specs.Net.{Impulse}
use Rattle.san_law.specs.State.{gather}
use Rattle.san_net.specs.Laid.{places_of}
use Rattle.san_net.specs.Leaf.{impulses_in}
use Rattle.san_net.specs.Network.{Network, span_in}
use Rattle.san_net.specs.declared.part.Part.{Part}
use Rattle.san_report.specs.Lines.{leaf_of}
use Rattle.san_reward.specs.Running.{Running, advanced, opened, rates_in, terms_in, with_all_rates, with_impulses}

pub record RewardAccount : Type 0 where
  pub network : Network
  pub running : Running
  pub marking : List ℕ

-- the rates are those of the terms in the marking
pub record IsAccount (a : RewardAccount) : Type 0 where
  pub spans : a.running.spans ≡ map (λ r. span_in r.span) a.network.rewards
  pub terms : a.running.terms ≡ map terms_in a.network.parts
  pub sized : length a.marking ≡ length a.network.initial
  pub rates : a.running.tally.rates ≡ rates_in a.network a.marking

-- before the first event
abbrev pub opened_account : Network → ℕ → RewardAccount
opened_account n horizon = record { network = n; running = with_all_rates (opened n horizon) (rates_in n n.initial); marking = n.initial }

-- the impulses of a leaf's activity, by its number in the network, in a marking
abbrev pub impulses_by : Option Part → ℕ → List ℕ → List Impulse
impulses_by None act m = []
impulses_by (Some p) act m = impulses_in p.atomic.impulses (act - p.first.0) (gather (places_of p) m)

abbrev pub impulses_of : Network → ℕ → List ℕ → List Impulse
impulses_of n act m = impulses_by (slice_get n.parts (leaf_of n act)) act m

-- the present rates counted up to an event's time; from then on the rates are those of the marking that it reached, and its impulses are counted
abbrev pub with_event : RewardAccount → Event → List ℕ → RewardAccount
with_event a e m = record {
  network = a.network;
  running = with_impulses (with_all_rates (advanced a.running e.time.0) (rates_in a.network m)) (impulses_of a.network e.act.0 m);
  marking = m;
}

-- outside of the places of an activity's leaf a marking is as it was
abbrev pub Reaches : Network → ℕ → List ℕ → List ℕ → Type 0
Reaches n act old new = (q : ℕ) → (slice_index new q ≡ slice_index old q) ⊎ ((p : Part) → slice_get n.parts (leaf_of n act) ≡ Some p → (i : ℕ) × (slice_get (places_of p) i ≡ Some q))
