use Rattle.san_reward.proofs.Sameness.{opened_of}
use Rattle.san_reward.proofs.laws.an_opened_tally_is_of_its_network.Goals as goal

pub returns : goal.returns
returns c = opened_of
