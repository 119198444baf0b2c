-- The law is a lemma.
use Rattle.san_legal.proofs.KeptRuns.{kept_states_are_those_of_runs}
use Rattle.san_legal.proofs.kept.kept_states_are_those_of_runs.Goals as goal

pub returns : goal.returns
returns c = kept_states_are_those_of_runs
