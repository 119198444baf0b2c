use Rattle.san_law.proofs.Steps.{tally_is_few}
use Rattle.san_law.proofs.law.a_tally_is_small.Goals as goal

pub returns : goal.returns
returns c = tally_is_few
