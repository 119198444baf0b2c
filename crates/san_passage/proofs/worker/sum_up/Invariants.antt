use Rattle.san_passage.specs.inner.Joined.{IsShare}
use Rattle.san_passage.proofs.worker.sum_up.Given as goal

abbrev pub invariant-runs : goal.invariant-runs
invariant-runs g l = IsShare l.flat l.limits (g.M.Condition.holds l.until.0) l.seed l.k l.all
