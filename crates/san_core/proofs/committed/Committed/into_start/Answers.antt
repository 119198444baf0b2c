use Rattle.san_core.proofs.Stopping.{start_is}
use Rattle.san_core.proofs.committed.Committed.into_start.Goals as goal

pub returns : goal.returns
returns c = let i = c.self.inside in start_is i.leaves.items i.shared.items i.order i.tally i.burst i.count i.halt c.args.self c.self.view_is c.requires
