use Rattle.std.proofs.Common.{ap, sym, ◌∙◌, Some}
use Rattle.san_net.specs.declared.part.Part.{Part}
use Rattle.san_reward.proofs.RatesSet.{lies_within}
use Rattle.san_plain.proofs.ImpulseLemmas.{known_rewards}
use Rattle.san_plain.proofs.impulses.count_impulses.Goals as goal

pub count_part-requires-clause-known : goal.count_part-requires-clause-known
count_part-requires-clause-known c =
    known_rewards c.args.flat.now c.is_network.ensures.network c.args.leaf.0 c.get-part.result.now (c.part.ensures ∙ ap (λ (p : Part). Some p) (sym c.get-part.ensures)) c.args.tally.now.spans c.requires.spans

pub count_part-requires-clause-over : goal.count_part-requires-clause-over
count_part-requires-clause-over c =
    lies_within c.args.flat.now c.args.leaf.0 c.get-part.result.now (c.part.ensures ∙ ap (λ (p : Part). Some p) (sym c.get-part.ensures)) c.requires.leaf c.args.marking.now c.requires.marking c.is_network.ensures.laid
