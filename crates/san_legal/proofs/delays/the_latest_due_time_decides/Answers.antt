-- The law is a lemma.
use Rattle.san_legal.proofs.LatestLemmas.{latest_decides}
use Rattle.san_legal.proofs.delays.the_latest_due_time_decides.Goals as goal

pub returns : goal.returns
returns c = latest_decides
