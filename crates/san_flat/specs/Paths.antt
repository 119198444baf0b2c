-- The paths of leaves as texts.
use Rattle.std.specs.Prelude.{ℕ, List, [], ◌∷◌, ◌++◌, slice_index_or}
use Rattle.std.specs.Fmt.{decimal}
use Rattle.san_tree.specs.Places.{child_of, node_at}
use Rattle.san_tree.specs.declared.node.Node.{Node}
use Rattle.san_tree.specs.declared.node.Node.TheVariants.{Leaf, Join, Rep}

-- the name of a child of a join
abbrev pub name_of : List (List ℕ × ℕ) → ℕ → List ℕ
name_of children child = (slice_index_or children child ([], 0)).0

-- what a child's path has behind its parent's: `.` and the child's name, or the copy's number as `[k]`
abbrev pub step_text : Node → ℕ → List ℕ
step_text (Leaf _) child = []
step_text (Join children _) child = 46 ∷ name_of children child
step_text (Rep _ _ _) child = 91 ∷ decimal child ++ 93 ∷ []

-- the path from node n on, as text
abbrev pub steps_text : List Node → ℕ → List ℕ → List ℕ
steps_text nodes n [] = []
steps_text nodes n (c ∷ path) = step_text (node_at nodes n) c ++ steps_text nodes (child_of (node_at nodes n) c) path

-- the root's path is the system's name
abbrev pub path_text : List ℕ → List Node → ℕ → List ℕ → List ℕ
path_text system nodes root path = system ++ steps_text nodes root path
