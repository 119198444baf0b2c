-- The law is a lemma.
use Rattle.san_legal.proofs.KeptRuns.{kept_state_is_one}
use Rattle.san_legal.proofs.kept.a_kept_state_is_one.Goals as goal

pub returns : goal.returns
returns c = kept_state_is_one
