-- The law is a lemma.
use Rattle.san_legal.proofs.FreeLemmas.{free_runs_are_of_draws}
use Rattle.san_legal.proofs.free.free_runs_are_of_some_draws.Goals as goal

pub returns : goal.returns
returns c = free_runs_are_of_draws
