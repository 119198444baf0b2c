use Rattle.std.proofs.Common.{arith, refl, slice_index_or}
use Rattle.san_net.specs.Network.{span_in}
use Rattle.san_net.specs.declared.part.Span as interval
use Rattle.san_net.specs.declared.part.Span.TheVariants as span
use Rattle.san_reward.proofs.Equality.{differ, low_at}
use Rattle.san_reward.proofs.same.same_spans.Goals as goal

pub same_span-requires-clause-a : goal.same_span-requires-clause-a
same_span-requires-clause-a c = low_at c.args.a.now c.loop-at.at _ (omega (arith, c.loop-at-test.true, c.loop-at.auto.at-end)) c.requires.a

pub same_span-requires-clause-b : goal.same_span-requires-clause-b
same_span-requires-clause-b c = low_at c.args.b.now c.loop-at.at _ (omega (arith, c.loop-at-test.true, c.loop-at.auto.at-end, c.if-a-b.false)) c.requires.b

-- what stands for an interval that is not there
abbrev no_interval : interval.Span
no_interval = span.Over (record { 0 = 0 }) (record { 0 = 0 })

pub returns-then-not-same_span : goal.returns-then-not-same_span
returns-then-not-same_span c =
    let x = slice_index_or c.args.a.now c.loop-at.at no_interval in
    let y = slice_index_or c.args.b.now c.loop-at.at no_interval in
    differ span_in c.args.a.now c.args.b.now c.loop-at.at no_interval no_interval x y c.same_span.result
    (omega (arith, c.loop-at-test.true, c.loop-at.auto.at-end)) (omega (arith, c.loop-at-test.true, c.loop-at.auto.at-end, c.if-a-b.false)) refl refl c.same_span.ensures.1 c.if-not-same_span.true
