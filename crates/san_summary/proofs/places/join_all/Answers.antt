use Rattle.std.proofs.Common.{arith}
use Rattle.san_summary.specs.inner.Places.{at}
use Rattle.san_summary.specs.inner.Joined.{joined}
use Rattle.san_summary.proofs.PlaceLemmas.{changed_all}
use Rattle.san_summary.proofs.places.join_all.Goals as goal

pub returns : goal.returns
returns c = changed_all (λ r s. joined s (at c.args.others.now r)) c.rewards.r c.args.mine.now.items c.rewards.mine.items c.rewards.invariant (omega (arith, c.rewards-test.false, c.rewards.invariant.long))
