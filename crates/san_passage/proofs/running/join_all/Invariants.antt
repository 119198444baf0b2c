use Rattle.san_share.specs.Shares.{first_of}
use Rattle.san_passage.specs.inner.Joined.{IsShare}
use Rattle.san_passage.proofs.running.join_all.Given as goal

abbrev pub invariant-shares : goal.invariant-shares
invariant-shares g l = IsShare l.flat l.fn.limits (g.C.Condition.holds l.fn.condition) l.fn.seeds.first (first_of l.each l.fn.seeds.runs l.share-index) l.all
