use Rattle.std.proofs.Common.{arith, map}
use Rattle.san_net.specs.Network.{span_in}
use Rattle.san_reward.specs.Smallness.{IsAtMost}
use Rattle.san_reward.specs.inner.Present.{counted_on}
use Rattle.std.proofs.Common.{◌^◌, subst, sym}
use Rattle.san_reward.proofs.Counting.{changed_all, changed_more, gone_same, span_low, sum_small}
use Rattle.san_reward.proofs.present.count_on.Goals as goal

pub overlap-ticks-requires : goal.overlap-ticks-requires
overlap-ticks-requires c = span_low c.args.spans.now.items c.rewards.at c.index.result.now c.index.ensures (omega (arith, c.rewards-test.true, c.requires.spans, c.rewards.invariant.long)) c.requires.spanned

pub accrue-requires-clause-sum : goal.accrue-requires-clause-sum
accrue-requires-clause-sum c =
    sum_small (2 ^ 120) c.rewards.sums.items c.rewards.at c.index-in-rewards.result.now c.index-in-rewards.ensures (omega (arith, c.rewards-test.true))
    (subst (IsAtMost (2 ^ 120)) (sym (c.rewards.invariant.left c.rewards.at (omega arith))) (c.requires.small c.rewards.at))

pub rewards-preserved : goal.rewards-preserved
rewards-preserved c =
    changed_more (counted_on (map span_in c.args.spans.now.items) c.args.present.now.items c.args.from c.args.to) c.rewards.at c.args.sums.now.items c.rewards.sums.items c.accrue.result c.rewards.invariant (omega (arith, c.rewards-test.true, c.rewards.invariant.long))
    (gone_same c.args.spans.now.items c.args.present.now.items c.args.from c.args.to c.rewards.at c.overlap-ticks.result c.rewards.sums.items c.accrue.result c.index-in-rewards.result.now c.index.result.now c.index-in-rewards-2.result.now
    c.index.ensures c.index-in-rewards-2.ensures c.index-in-rewards.ensures
    (omega (arith, c.rewards-test.true, c.requires.spans, c.rewards.invariant.long)) (omega (arith, c.rewards-test.true, c.requires.present, c.rewards.invariant.long)) (omega (arith, c.rewards-test.true)) c.overlap-ticks.ensures c.accrue.ensures)

pub returns : goal.returns
returns c = changed_all (counted_on (map span_in c.args.spans.now.items) c.args.present.now.items c.args.from c.args.to) c.rewards.at c.args.sums.now.items c.rewards.sums.items c.rewards.invariant (omega (arith, c.rewards-test.false, c.rewards.invariant.long))
