use Rattle.san_speculation.proofs.Redos.{same_is}
use Rattle.san_speculation.proofs.retaking.is_same.Goals as goal

pub returns : goal.returns
returns c = same_is c.args.one.now c.args.other.now c.same_state.result c.same_state.ensures
