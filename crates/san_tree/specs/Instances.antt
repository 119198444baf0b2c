-- The leaves of a tree, in tree order.
use Rattle.std.specs.Prelude.{ℕ, zero, suc, ◌+◌, ◌≡◌, List, [], ◌∷◌, ◌++◌, length, map, min, ◌≤◌, slice_index_or}
use Rattle.san_tree.specs.declared.limits.TheConstants.{MANY_LEAVES}
use Rattle.san_tree.specs.Places.{node_at, reached}
use Rattle.san_tree.specs.declared.instance.Instance.{Instance}
use Rattle.san_tree.specs.declared.node.Node.{Node}
use Rattle.san_tree.specs.declared.node.Node.TheVariants.{Leaf, Join, Rep}

-- a leaf below the end of a path, seen from where the path begins
abbrev pub onto : List ℕ → Instance → Instance
onto path i = record { path = path ++ i.path; atomic = i.atomic }

-- the leaves below child c, seen from the node above
abbrev pub below : ℕ → List Instance → List Instance
below c = map (onto (c ∷ []))

-- those of a join's children, numbered from c, where `table` has the leaves of each earlier node
abbrev pub joined : List (List Instance) → ℕ → List (List ℕ × ℕ) → List Instance
joined table c [] = []
joined table c (child ∷ children) = below c (slice_index_or table child.1 []) ++ joined table (c + 1) children

-- those of so many copies, numbered from c
abbrev pub copied : List Instance → ℕ → ℕ → List Instance
copied leaves c zero = []
copied leaves c (suc times) = below c leaves ++ copied leaves (c + 1) times

abbrev pub instances_of : List (List Instance) → Node → List Instance
instances_of table (Leaf atomic) = record { path = []; atomic = atomic } ∷ []
instances_of table (Join children _) = joined table 0 children
instances_of table (Rep node times _) = copied (slice_index_or table node []) 0 times

-- for each node its leaves, from a table of those of the first nodes
abbrev pub grown : List (List Instance) → List Node → List (List Instance)
grown table [] = table
grown table (n ∷ ns) = grown (table ++ instances_of table n ∷ []) ns

-- the leaves below a node, in tree order
abbrev pub instances : List Node → ℕ → List Instance
instances nodes root = slice_index_or (grown [] nodes) root []

-- no more are counted than that there are too many
abbrev pub capped : ℕ → ℕ
capped n = min n MANY_LEAVES

-- the leaf's path has at most so many numbers
abbrev pub IsWithin : ℕ → Instance → Type 0
IsWithin depth i = length i.path ≤ depth

-- the leaf's path leads from node n to a node of its atomic
abbrev pub LeadsTo : List Node → ℕ → Instance → Type 0
LeadsTo nodes n i = node_at nodes (reached nodes n i.path) ≡ Leaf i.atomic
