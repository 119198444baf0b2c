use Rattle.san_seq.proofs.ReachLemmas.{events_are_laws}
use Rattle.san_seq.proofs.laws.events_are_the_laws.Goals as goal

pub returns : goal.returns
returns c = events_are_laws
