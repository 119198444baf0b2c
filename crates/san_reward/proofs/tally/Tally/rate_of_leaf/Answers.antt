use Rattle.std.proofs.Common.{Some, ap, ◌∙◌, sym}
use Rattle.san_net.specs.declared.part.Part.{Part}
use Rattle.san_reward.specs.Running.{with_leaf_rates}
use Rattle.san_reward.proofs.RatesSet.{lies_within, rates_there}
use Rattle.san_reward.proofs.tally.Tally.rate_of_leaf.Goals as goal

pub rate_part-requires-clause-over : goal.rate_part-requires-clause-over
rate_part-requires-clause-over c = lies_within c.args.flat.now c.args.leaf.0 c.get.result.now (c.part.ensures ∙ ap (λ (p : Part). Some p) (sym c.get.ensures)) c.requires.leaf c.args.marking.now c.requires.marking c.is_network.ensures.laid

pub returns : goal.returns
returns c = c.rate_part.ensures ∙ ap (with_leaf_rates c.args.self.now c.args.leaf.0) (rates_there c.args.flat.now c.args.leaf.0 c.get.result.now (c.part.ensures ∙ ap (λ (p : Part). Some p) (sym c.get.ensures)) c.requires.leaf c.args.marking.now)
