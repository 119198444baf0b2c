use Rattle.std.proofs.Common.{arith}
use Rattle.san_summary.proofs.BatchLemmas.{no_sums}
use Rattle.san_summary.proofs.batch.Batch.empty.Goals as goal

pub returns : goal.returns
returns c = no_sums c.args.rewards c.rewards.counter c.rewards.summaries.items c.rewards.invariant (omega (arith, c.rewards-test.false, c.rewards.auto))
