-- A tally's sums are those of its network, whatever else the network is.
use Rattle.std.proofs.Common.{ℕ, zero, suc, ◌+◌, ◌-◌, ◌≡◌, ◌∙◌, ap, refl, List, [], ◌∷◌, cond, slice_index_or, map}
use Rattle.san_law.specs.Net.{Net, Rated}
use Rattle.san_law.specs.Network as law
use Rattle.san_law.specs.Reward.{is_within, leaf_sum, no_span, plus, rates_sum, span_of, tick_sum, worth_by, zero_sum}
use Rattle.san_law.specs.Tally.{Tally, going_on, sum_of, tally_after, tally_worth}
use Rattle.san_law.proofs.Tallies.{sum_like}
use Rattle.san_net.specs.Leaf.{leaf_of}
use Rattle.san_net.specs.Network.{Network, net_of}
use Rattle.san_net.specs.declared.part.Part.{Part}
use Rattle.san_reward.specs.Running.{IsOf, Running, advanced, net_in, opened, terms_in}
use Rattle.san_reward.proofs.Counting.{sums_like}

module _ (net : Net) (t : Running) (is : IsOf net t) where
  rates_same : (r i : ℕ) (rates : List (List Rated)) → rates_sum net r i rates ≡ rates_sum (net_in t) r i rates
  rates_same r i [] = refl
  rates_same r i (ws ∷ rates) = ap (λ qs. plus (leaf_sum r qs ws) (rates_sum net r (suc i) rates)) (is.terms i) ∙ ap (plus (leaf_sum r (slice_index_or t.terms i []) ws)) (rates_same r (suc i) rates)

  tick_same : (r u : ℕ) (rates : List (List Rated)) → tick_sum net r u rates ≡ tick_sum (net_in t) r u rates
  tick_same r u rates = ap (λ ss. cond (is_within (slice_index_or ss r no_span) u) (rates_sum net r 0 rates) zero_sum) is.spans ∙ ap (λ w. cond (is_within (span_of (net_in t) r) u) w zero_sum) (rates_same r 0 rates)

  on_same : (x : Tally) (from ticks r : ℕ) (sum : Rated) → going_on net x from ticks r sum ≡ going_on (net_in t) x from ticks r sum
  on_same x from ticks r sum = ap (plus sum) (sum_like (λ u. tick_sum net r u x.rates) (λ u. tick_sum (net_in t) r u x.rates) from ticks (λ u a b. tick_same r u x.rates))

  pub worth_same : (r : ℕ) → tally_worth net t.tally t.time r ≡ tally_worth (net_in t) t.tally t.time r
  worth_same r =
      ap (λ h. worth_by h (span_of net r) (going_on net t.tally t.time (h + 1 - t.time) r (sum_of t.tally r))) is.horizon
      ∙ (ap (λ ss. worth_by t.horizon (slice_index_or ss r no_span) (going_on net t.tally t.time (t.horizon + 1 - t.time) r (sum_of t.tally r))) is.spans
      ∙ ap (worth_by t.horizon (span_of (net_in t) r)) (on_same t.tally t.time (t.horizon + 1 - t.time) r (sum_of t.tally r)))

  pub advance_same : (to : ℕ) → tally_after net t.tally t.time to [] ≡ (advanced t to).tally
  advance_same to = ap (λ ss. record { rates = t.tally.rates; sums = ss; impulses = t.tally.impulses + 0 })
      (sums_like (λ r sum. plus (going_on net t.tally t.time (to - t.time) r sum) zero_sum) (λ r sum. plus (going_on (net_in t) t.tally t.time (to - t.time) r sum) zero_sum) 0 t.tally.sums
      (λ r sum l. ap (λ x. plus x zero_sum) (on_same t.tally t.time (to - t.time) r sum)))

terms_same : (parts : List Part) (j : ℕ) → (slice_index_or (map leaf_of parts) j law.no_part).terms ≡ slice_index_or (map terms_in parts) j []
terms_same [] j = refl
terms_same (p ∷ parts) zero = refl
terms_same (p ∷ parts) (suc j) = terms_same parts j

pub opened_of : (n : Network) (draw : ℕ → ℕ → ℕ) (limits : law.Limits) → IsOf (net_of n draw limits) (opened n limits.horizon)
opened_of n draw limits = record { spans = refl; terms = terms_same n.parts; horizon = refl }
