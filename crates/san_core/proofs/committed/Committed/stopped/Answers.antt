use Rattle.san_core.proofs.Stopping.{is_named, stopped_none, stopped_some}
use Rattle.san_core.proofs.committed.Committed.stopped.Goals as goal

pub returns-in-Some : goal.returns-in-Some
returns-in-Some c =
    let i = c.self.inside in
    stopped_some i.leaves.items i.shared.items i.order i.tally i.burst i.count i.halt c.args.self.now c.in-Some.halt c.ending.result c.self.view_is c.in-Some.is
    (c.ending.ensures i.order.firsts (is_named i.order.firsts i.halt c.in-Some.halt c.in-Some.is c.self.invariant))

pub returns-in-None : goal.returns-in-None
returns-in-None c =
    let i = c.self.inside in
    stopped_none i.leaves.items i.shared.items i.order i.tally i.burst i.count i.halt c.args.self.now c.self.view_is c.in-None.is
