use Rattle.std.proofs.Common.{◌≡◌, length}
use Rattle.san_tree.proofs.LeafLemmas.{IsGrown}
use Rattle.san_tree.specs.declared.limits.TheConstants.{MAX_NODES}
use Rattle.san_tree.proofs.counts.counts.Given as goal

abbrev pub invariant-nodes : goal.invariant-nodes
invariant-nodes l = record { sized : length l.counts ≡ MAX_NODES; sums : IsGrown l.counts l.nodes l.at }
