-- The laws are lemmas.
use Rattle.san_legal.proofs.KeptRuns.{legal_events_are_those_of_runs, legal_events_begin_runs}
use Rattle.san_legal.proofs.kept.legal_events_are_those_of_runs.Goals as goal

pub returns-clause-reached : goal.returns-clause-reached
returns-clause-reached c = legal_events_are_those_of_runs

pub returns-clause-begin : goal.returns-clause-begin
returns-clause-begin c = legal_events_begin_runs
