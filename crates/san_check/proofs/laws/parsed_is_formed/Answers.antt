use Rattle.san_check.proofs.FormedLemmas.{parsed_formed}
use Rattle.san_check.proofs.laws.parsed_is_formed.Goals as goal

pub returns : goal.returns
returns c = parsed_formed
