use Rattle.std.proofs.Common.{◌∙◌, ap, sym, arith}
use Rattle.san_reward.proofs.Equality.{differ}
use Rattle.san_reward.proofs.same.same_lists.Goals as goal

pub returns-then-not-all_same : goal.returns-then-not-all_same
returns-then-not-all_same g c =
    differ (λ v. v.items) c.args.a.now c.args.b.now c.loop-at.at c.index-a-at.result c.index-b-at.result c.index-a-at.result c.index-b-at.result c.all_same.result
    (omega (arith, c.loop-at-test.true, c.loop-at.auto.at-end)) (omega (arith, c.loop-at-test.true, c.loop-at.auto.at-end, c.if-a-b.false)) (ap (λ v. v.items) c.index-a-at.is) (ap (λ v. v.items) c.index-b-at.is) (λ e. c.all_same.ensures.1 (c.deref.ensures.value ∙ (e ∙ sym c.deref-in-loop-at.ensures.value))) c.if-not-all_same.true
