use Rattle.san_batch.specs.inner.Shares.{IsBatch}
use Rattle.san_batch.proofs.worker.sum_up.Given as goal

abbrev pub invariant-runs : goal.invariant-runs
invariant-runs l = IsBatch l.flat l.limits l.seed l.k l.batch
