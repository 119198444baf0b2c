use Rattle.san_delay.proofs.LongestLemmas.{longest_is}
use Rattle.san_delay.proofs.laws.longest_delay_is_reached.Goals as goal

pub returns : goal.returns
returns c = longest_is
