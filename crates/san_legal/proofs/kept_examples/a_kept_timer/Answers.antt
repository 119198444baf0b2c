-- What the slow timer can't be.
use Rattle.san_legal.proofs.KeptValues.{no_instant, not_due_at_three, not_five, not_held_then, not_later_at_three, slow_has_one, steady_has_none}
use Rattle.san_legal.proofs.kept_examples.a_kept_timer.Goals as goal

pub returns-clause-no_delay : goal.returns-clause-no_delay
returns-clause-no_delay c = not_five

pub returns-clause-instant : goal.returns-clause-instant
returns-clause-instant c = no_instant

pub returns-clause-not_later : goal.returns-clause-not_later
returns-clause-not_later c = not_later_at_three

pub returns-clause-not_due : goal.returns-clause-not_due
returns-clause-not_due c = not_due_at_three

pub returns-clause-not_held : goal.returns-clause-not_held
returns-clause-not_held c = not_held_then

pub returns-clause-some : goal.returns-clause-some
returns-clause-some c = slow_has_one

pub returns-clause-none : goal.returns-clause-none
returns-clause-none c = steady_has_none
