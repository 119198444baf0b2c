use Rattle.san_check.proofs.TreeLemmas.{made_tree}
use Rattle.san_check.proofs.tree.made.Goals as goal

pub invariant_of-result : goal.invariant_of-result
invariant_of-result c = record {
  kept = made_tree c.args.syntax.now c.args.models.now c.as_slice.result.now c.as_bytes.result.now c.in_ok-nodes.nodes c.number.result c.requires.passes c.requires.models c.as_slice.ensures c.as_bytes.ensures.value c.in_ok-nodes.ensures c.number.ensures;
}
