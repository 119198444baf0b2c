use Rattle.std.proofs.Common.{◌≡◌, replicate}
use Rattle.san_summary.specs.inner.Joined.{none}
use Rattle.san_summary.proofs.batch.Batch.empty.Given as goal

abbrev pub invariant-rewards : goal.invariant-rewards
invariant-rewards l = l.summaries.items ≡ replicate l.counter none
