use Rattle.san_reward.proofs.SmallWorths.{small_worth}
use Rattle.san_reward.proofs.laws.worths_are_small.Goals as goal

pub returns : goal.returns
returns c = small_worth
