use Rattle.std.proofs.Common.{refl, ◌∙◌, arith, length-set}
use Rattle.san_tree.proofs.LeafLemmas.{grown-start, grown-more}
use Rattle.san_tree.proofs.counts.counts.Goals as goal

pub nodes-init : goal.nodes-init
nodes-init c = record { sized = refl; sums = grown-start c.args.nodes.now }

pub nodes-preserved : goal.nodes-preserved
nodes-preserved c =
    record {
      sized = length-set _ _ _ ∙ c.nodes.invariant.sized;
      sums = grown-more c.nodes.counts c.args.nodes.now c.nodes.at c.count_of.result c.index-nodes-at.result c.nodes-test.true c.index-nodes-at.is (omega (arith, c.nodes.invariant.sized, c.nodes-test.true, c.requires)) c.count_of.ensures c.nodes.invariant.sums;
    }
