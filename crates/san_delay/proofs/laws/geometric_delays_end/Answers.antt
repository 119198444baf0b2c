use Rattle.san_delay.proofs.SeriesLemmas.{chance_over, geometric-least, geometric-within, longest-least}
use Rattle.san_delay.proofs.laws.geometric_delays_end.Goals as goal

pub returns-clause-ends : goal.returns-clause-ends
returns-clause-ends c = chance_over

pub returns-clause-delay : goal.returns-clause-delay
returns-clause-delay c = geometric-least

pub returns-clause-longest : goal.returns-clause-longest
returns-clause-longest c = longest-least

pub returns-clause-within : goal.returns-clause-within
returns-clause-within c = geometric-within
