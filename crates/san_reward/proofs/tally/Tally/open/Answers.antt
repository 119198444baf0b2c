use Rattle.std.proofs.Common.{map}
use Rattle.san_reward.proofs.Making.{opened_is, opened_keeps}
use Rattle.san_reward.proofs.tally.Tally.open.Goals as goal

pub invariant_of-result : goal.invariant_of-result
invariant_of-result c = opened_keeps c.args.flat.now c.args.horizon.0 c.rewards-rewards.result.now c.in_ok-spans.spans.items (map (λ v. v.items) c.in_ok-terms.terms.items) (map (λ v. v.items) c.in_ok-rates.rates.items) c.in_ok-sums.sums.items
    c.rewards-rewards.ensures c.in_ok-spans.ensures c.in_ok-terms.ensures c.in_ok-rates.ensures c.in_ok-sums.ensures c.in_ok-present.present.items c.in_ok-present.ensures c.is_network.ensures.network c.requires

pub returns : goal.returns
returns c = opened_is c.args.flat.now c.args.horizon.0 c.rewards-rewards.result.now c.in_ok-spans.spans.items (map (λ v. v.items) c.in_ok-terms.terms.items) (map (λ v. v.items) c.in_ok-rates.rates.items) c.in_ok-sums.sums.items
    c.rewards-rewards.ensures c.in_ok-spans.ensures c.in_ok-terms.ensures c.in_ok-rates.ensures c.in_ok-sums.ensures
