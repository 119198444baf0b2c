use Rattle.san_flat.proofs.KnownLemmas.{is_network}
use Rattle.san_flat.proofs.network.leaves_are_known.Goals as goal

pub returns-clause-network : goal.returns-clause-network
returns-clause-network c = is_network c.args.model.now c.is_model.ensures.composed
