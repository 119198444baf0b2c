use Rattle.indexmap.specs.IndexMap.{get}
use Rattle.san_tree.specs.inner.Shared.{Knows, same_part}
use Rattle.san_tree.proofs.shared.table_of.Given as goal

abbrev pub invariant-nodes : goal.invariant-nodes
invariant-nodes l = Knows l.nodes l.n (get same_part l.table)
