use Rattle.san_core.proofs.Stopping.{order_is}
use Rattle.san_core.proofs.committed.Committed.order.Goals as goal

pub returns : goal.returns
returns c = let i = c.self.inside in order_is i.leaves.items i.shared.items i.order i.tally i.burst i.count i.halt c.args.self.now c.self.view_is
