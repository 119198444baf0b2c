-- What can't end so.
use Rattle.san_legal.proofs.EndingValues.{not_at_three, not_over_at_four}
use Rattle.san_legal.proofs.ending_examples.small_endings.Goals as goal

pub returns-clause-not_horizon : goal.returns-clause-not_horizon
returns-clause-not_horizon c = not_at_three

pub returns-clause-not_events : goal.returns-clause-not_events
returns-clause-not_events c = not_over_at_four
