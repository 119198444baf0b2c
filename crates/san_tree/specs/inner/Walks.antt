-- How far a count, a walk and a climb have come.
use Rattle.std.specs.Prelude.{ℕ, zero, suc, ◌+◌, ◌*◌, List, [], length, take, slice_index}
use Rattle.std.specs.List.{sum_by}
use Rattle.san_tree.specs.declared.home.Home.{Home}
use Rattle.san_tree.specs.declared.instance.Instance.{Instance}
use Rattle.san_tree.specs.declared.node.Node.{Node}
use Rattle.san_tree.specs.declared.node.Node.TheVariants.{Leaf, Join, Rep}
use Rattle.san_tree.specs.Instances.{grown}
use Rattle.san_tree.specs.Places.{PathStep, climb}

-- the number of leaves of a node, from the numbers of the earlier nodes' leaves
abbrev pub counted : List ℕ → Node → ℕ
counted counts (Leaf _) = 1
counted counts (Join children _) = sum_by (λ child. slice_index counts child.1) children
counted counts (Rep node times _) = slice_index counts node * times

-- the leaves of the nodes before node n
abbrev pub earlier : List Node → ℕ → List (List Instance)
earlier nodes n = take n (grown [] nodes)

-- a climb that came to node n's own place at depth 0 goes on above n; one that stopped below n stays
unfoldable pub settled : ℕ → ℕ → List PathStep → Home
settled zero place above = climb place above
settled (suc depth) place above = record { depth = length above + suc depth; place = place }
