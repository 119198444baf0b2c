use Rattle.san_check.proofs.AcceptedLemmas.{accepted}
use Rattle.san_check.proofs.laws.atomics_are_accepted.Goals as goal

pub returns : goal.returns
returns c = accepted
