use Rattle.san_leaf.proofs.TimerLemmas.{least_fits, opens_timed, pieces_keep_timed}
use Rattle.san_leaf.proofs.laws.timers_are_of_timed_activities.Goals as goal

pub returns-clause-opened : goal.returns-clause-opened
returns-clause-opened c = opens_timed

pub returns-clause-kept : goal.returns-clause-kept
returns-clause-kept c = pieces_keep_timed

pub returns-clause-fires : goal.returns-clause-fires
returns-clause-fires c = least_fits
