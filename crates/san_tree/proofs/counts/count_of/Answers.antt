use Rattle.std.proofs.Common.{◌∙◌}
use Rattle.san_tree.proofs.LeafLemmas.{sum-more}
use Rattle.san_tree.proofs.counts.count_of.Goals as goal

pub loop-child-preserved : goal.loop-child-preserved
loop-child-preserved c =
    c.min-total.ensures ∙ sum-more c.args.counts.now c.as_slice-child-items.result.now c.loop-child.child-index c.child-item.result _ _ c.loop-child-test.true c.child-item.is c.count_at.ensures c.loop-child.invariant
