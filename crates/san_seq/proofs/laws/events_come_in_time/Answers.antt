use Rattle.san_seq.proofs.ReachLemmas.{events_in_time}
use Rattle.san_seq.proofs.laws.events_come_in_time.Goals as goal

pub returns : goal.returns
returns c = events_in_time
