use Rattle.std.proofs.Common.{ℕ, ◌<◌}
use Rattle.san_tree.specs.Places.{node_at}
use Rattle.san_tree.specs.Trees.{IsNode}
use Rattle.san_tree.proofs.valid.all_valid.Given as goal

abbrev pub invariant-nodes : goal.invariant-nodes
invariant-nodes l = (k : ℕ) → k < l.n → IsNode k (node_at l.nodes k)
