-- The law is a lemma.
use Rattle.san_legal.proofs.KeptRuns.{legal_runs_are_those_of_draws}
use Rattle.san_legal.proofs.kept.legal_runs_are_those_of_draws.Goals as goal

pub returns : goal.returns
returns c = legal_runs_are_those_of_draws
