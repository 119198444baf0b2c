use Rattle.san_batch.specs.inner.Shares.{IsBatch}
use Rattle.san_share.specs.Shares.{first_of}
use Rattle.san_batch.proofs.running.join_all.Given as goal

abbrev pub invariant-shares : goal.invariant-shares
invariant-shares l = IsBatch l.flat l.fn.limits l.seed (first_of l.each l.runs l.share-index) l.all
