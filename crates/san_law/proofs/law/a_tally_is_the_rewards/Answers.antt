use Rattle.san_law.proofs.Rewards.{tally_is_worth}
use Rattle.san_law.proofs.law.a_tally_is_the_rewards.Goals as goal

pub returns : goal.returns
returns c = tally_is_worth
