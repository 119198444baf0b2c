use Rattle.std.proofs.Common.{arith}
use Rattle.san_delay.proofs.SeriesLemmas.{geometric-is, geometric-within}
use Rattle.san_delay.proofs.geometric.delay.Goals as goal

pub returns-clause-value : goal.returns-clause-value
returns-clause-value c =
    geometric-is c.args.p c.args.q c.args.u c.loop-left.ticks c.requires c.loop-left.invariant.some (omega arith) c.loop-left.invariant.before

pub returns-clause-within : goal.returns-clause-within
returns-clause-within c =
    let is = geometric-is c.args.p c.args.q c.args.u c.loop-left.ticks c.requires c.loop-left.invariant.some (omega arith) c.loop-left.invariant.before in
    (c.loop-left.invariant.some, omega (arith, is, geometric-within c.args.p c.args.q c.args.u c.requires))
