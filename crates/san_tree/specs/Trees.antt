-- Which nodes make a tree.
use Rattle.std.specs.Prelude.{ℕ, ◌<◌, ◌≤◌, List, [], ◌∷◌, length, map}
use Rattle.std.specs.List.{All}
use Rattle.san_tree.specs.declared.limits.TheConstants.{MAX_NODES, MAX_CHILDREN, MAX_SHARES}
use Rattle.san_tree.specs.Places.{node_at, width}
use Rattle.san_tree.specs.declared.node.Node.{Node}
use Rattle.san_tree.specs.declared.node.Node.TheVariants.{Leaf, Join, Rep}

-- the nodes that a node names
abbrev pub named : Node → List ℕ
named (Leaf _) = []
named (Join children _) = map (λ child. child.1) children
named (Rep node _ _) = node ∷ []

-- node n names only earlier nodes, and neither names nor shows too many
pub record IsNode (n : ℕ) (node : Node) : Type 0 where
  pub earlier : All (λ m. m < n) (named node)
  pub few_children : length (named node) ≤ MAX_CHILDREN
  pub few_shares : width node ≤ MAX_SHARES

pub record IsTree (nodes : List Node) (root : ℕ) : Type 0 where
  pub few : length nodes ≤ MAX_NODES
  pub there : root < length nodes
  pub each : (n : ℕ) → IsNode n (node_at nodes n)
