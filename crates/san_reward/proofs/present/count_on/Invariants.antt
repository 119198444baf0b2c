use Rattle.std.proofs.Common.{map}
use Rattle.san_net.specs.Network.{span_in}
use Rattle.san_reward.specs.inner.Present.{counted_on}
use Rattle.san_reward.proofs.Counting.{Changed}
use Rattle.san_reward.proofs.present.count_on.Given as goal

abbrev pub invariant-rewards : goal.invariant-rewards
invariant-rewards l = Changed (counted_on (map span_in l.spans.items) l.present.items l.from l.to) l.at l.initial.sums.items l.sums.items
