-- States that don't agree.
use Rattle.san_legal.proofs.KeptValues.{not_agreeing_at_five, not_agreeing_at_three}
use Rattle.san_legal.proofs.kept_examples.agreeing_states.Goals as goal

pub returns-clause-not_at_three : goal.returns-clause-not_at_three
returns-clause-not_at_three c = not_agreeing_at_three

pub returns-clause-not_at_five : goal.returns-clause-not_at_five
returns-clause-not_at_five c = not_agreeing_at_five
