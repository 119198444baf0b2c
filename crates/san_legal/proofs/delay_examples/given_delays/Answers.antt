-- What no draw gives.
use Rattle.san_legal.proofs.DelayValues.{beyond_all, each_traps, five_beyond, five_not_given, light_entry, not_four, not_to_five}
use Rattle.san_legal.proofs.delay_examples.given_delays.Goals as goal

pub returns-clause-not_exact : goal.returns-clause-not_exact
returns-clause-not_exact c = not_four

pub returns-clause-not_between : goal.returns-clause-not_between
returns-clause-not_between c = five_beyond

pub returns-clause-light : goal.returns-clause-light
returns-clause-light c = light_entry

pub returns-clause-not_up_to : goal.returns-clause-not_up_to
returns-clause-not_up_to c = beyond_all

pub returns-clause-not_given : goal.returns-clause-not_given
returns-clause-not_given c = five_not_given

pub returns-clause-not_those : goal.returns-clause-not_those
returns-clause-not_those c = not_to_five

pub returns-clause-trap : goal.returns-clause-trap
returns-clause-trap c = each_traps
