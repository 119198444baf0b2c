use Rattle.san_law.proofs.Trajectories.{stop_is_trajectory, finish_is_trajectory, outcome_is_trajectory}
use Rattle.san_law.proofs.law.an_end_is_the_trajectory.Goals as goal

pub returns-clause-stop : goal.returns-clause-stop
returns-clause-stop c = stop_is_trajectory

pub returns-clause-finish : goal.returns-clause-finish
returns-clause-finish c = finish_is_trajectory

pub returns-clause-outcome : goal.returns-clause-outcome
returns-clause-outcome c = outcome_is_trajectory
