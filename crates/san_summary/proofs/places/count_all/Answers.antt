use Rattle.std.proofs.Common.{arith, None, slice_index_or}
use Rattle.san_summary.specs.inner.Joined.{counted}
use Rattle.san_summary.proofs.PlaceLemmas.{changed_all}
use Rattle.san_summary.proofs.places.count_all.Goals as goal

pub returns : goal.returns
returns c = changed_all (λ r s. counted s (slice_index_or c.args.numbers.now r None)) c.rewards.r c.args.mine.now.items c.rewards.mine.items c.rewards.invariant (omega (arith, c.rewards-test.false, c.rewards.invariant.long))
