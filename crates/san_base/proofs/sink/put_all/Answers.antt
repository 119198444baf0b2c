use Rattle.san_base.proofs.FlowLemmas.{prefix_of}
use Rattle.san_base.proofs.sink.put_all.Goals as goal

pub returns-in-Failed-clause-bytes : goal.returns-in-Failed-clause-bytes
returns-in-Failed-clause-bytes g c = prefix_of _ _ _ c.args.bytes.now c.turns.at c.turns.invariant.appended c.in-Failed.ensures.put.1
