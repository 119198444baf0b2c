use Rattle.san_law.proofs.Firsts.{first_is_before_all, none_is_first}
use Rattle.san_law.proofs.law.the_least_timer_is_first.Goals as goal

pub returns-clause-first : goal.returns-clause-first
returns-clause-first c = first_is_before_all

pub returns-clause-none : goal.returns-clause-none
returns-clause-none c = none_is_first
