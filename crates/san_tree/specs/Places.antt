-- Which place of a node a child's place becomes, and the home of a leaf's place.
use Rattle.std.specs.Prelude.{ℕ, ◌+◌, ◌≡◌, Bool, true, ◌&&◌, nat_eq, List, [], ◌∷◌, Option, Some, None, length, position, slice_index_or}
use Rattle.std.specs.List.{list_any}
use Rattle.san_tree.specs.declared.home.Home.{Home}
use Rattle.san_tree.specs.declared.share.Share.{Share}
use Rattle.san_tree.specs.declared.node.Node.{Node}
use Rattle.san_tree.specs.declared.node.Node.TheVariants.{Leaf, Join, Rep}

-- the share has the part (child, place)
abbrev pub names : ℕ → ℕ → Share → Bool
names child place share = list_any (λ part. nat_eq part.0 child && nat_eq part.1 place) share.parts

-- the place of the node that the child's place becomes, where the node shares it
abbrev pub shared_as : Node → ℕ → ℕ → Option ℕ
shared_as (Leaf _) child place = None
shared_as (Join _ shares) child place = position (names child place) shares
shared_as (Rep _ _ shares) child place = position (λ p. nat_eq p place) shares

-- the node of a child of a join, or 0
abbrev pub node_of : List (List ℕ × ℕ) → ℕ → ℕ
node_of children child = (slice_index_or children child ([], 0)).1

-- the node of a child, or 0
abbrev pub child_of : Node → ℕ → ℕ
child_of (Leaf _) child = 0
child_of (Join children _) child = node_of children child
child_of (Rep node _ _) child = node

abbrev pub node_at : List Node → ℕ → Node
node_at nodes n = slice_index_or nodes n (Leaf 0)

-- the shares of a join
abbrev pub shares_of : Node → List Share
shares_of (Leaf _) = []
shares_of (Join _ shares) = shares
shares_of (Rep _ _ _) = []

-- how many places a join or rep shows
abbrev pub width : Node → ℕ
width (Leaf _) = 0
width (Join _ shares) = length shares
width (Rep _ _ shares) = length shares

-- a node, and the number by which a path goes on below it
abbrev pub PathStep : Type 0
PathStep = Node × ℕ

-- the nodes above the end of a path from node n, nearest first, before those above n
abbrev pub chain : List Node → ℕ → List ℕ → List PathStep → List PathStep
chain nodes n [] above = above
chain nodes n (c ∷ path) above = chain nodes (child_of (node_at nodes n) c) path ((node_at nodes n, c) ∷ above)

abbrev pub either : Home → (ℕ → Home) → Option ℕ → Home
either stop on None = stop
either stop on (Some p) = on p

-- at each node that shares the place it becomes that node's place; at the first that doesn't, stop
unfoldable pub climb : ℕ → List PathStep → Home
climb place [] = record { depth = 0; place = place }
climb place ((node, child) ∷ above) =
    either (record { depth = length above + 1; place = place }) (λ p. climb p above) (shared_as node child place)

-- the home of a place of the leaf at the end of a path from the root
unfoldable pub home : List Node → ℕ → List ℕ → ℕ → Home
home nodes root path place = climb place (chain nodes root path [])

-- a share has at most one place of each child
abbrev pub NamesOnce : Share → Type 0
NamesOnce share = (c p q : ℕ) → names c p share ≡ true → names c q share ≡ true → p ≡ q

-- a node shares each place of a child apart: no two of its places become one
abbrev pub SharesApart : Node → Type 0
SharesApart node = (c p q k : ℕ) → shared_as node c p ≡ Some k → shared_as node c q ≡ Some k → p ≡ q

-- the node at the end of a path
abbrev pub reached : List Node → ℕ → List ℕ → ℕ
reached nodes n [] = n
reached nodes n (c ∷ path) = reached nodes (child_of (node_at nodes n) c) path

-- what nodes show at their places is kept where a place is shared
abbrev pub Keeps : {V : Type 0} → List Node → (ℕ → ℕ → V) → Type 0
Keeps nodes shown = (n c p k : ℕ) → shared_as (node_at nodes n) c p ≡ Some k → shown (child_of (node_at nodes n) c) p ≡ shown n k
