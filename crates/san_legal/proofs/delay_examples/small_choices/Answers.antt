-- What no draw chooses.
use Rattle.san_legal.proofs.CaseValues.{second_not_chosen, second_not_weighted, zero_traps}
use Rattle.san_legal.proofs.delay_examples.small_choices.Goals as goal

pub returns-clause-not_chosen : goal.returns-clause-not_chosen
returns-clause-not_chosen c = second_not_chosen

pub returns-clause-not_weighted : goal.returns-clause-not_weighted
returns-clause-not_weighted c = second_not_weighted

pub returns-clause-all_zero : goal.returns-clause-all_zero
returns-clause-all_zero c = zero_traps
