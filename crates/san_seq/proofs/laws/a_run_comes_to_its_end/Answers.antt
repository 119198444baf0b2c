use Rattle.san_seq.proofs.RunLemmas.{has_rest}
use Rattle.san_seq.proofs.laws.a_run_comes_to_its_end.Goals as goal

pub returns : goal.returns
returns c = has_rest
