use Rattle.std.proofs.Common.{arith}
use Rattle.san_clock.proofs.DueLemmas.{least_is}
use Rattle.san_clock.proofs.due.least_of.Goals as goal

pub returns : goal.returns
returns c = least_is c.args.row.now c.timers-timers.result.now c.acts.least c.acts.k (omega (arith, c.acts-test.false)) c.timers-timers.ensures c.acts.invariant.least
