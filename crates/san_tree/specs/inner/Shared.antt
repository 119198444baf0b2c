-- What a table of the nodes' shares knows.
use Rattle.std.specs.Prelude.{ℕ, ◌≡◌, Bool, ◌&&◌, cond, nat_eq, nat_lt, List, Option, Some, None, position}
use Rattle.san_tree.specs.declared.node.Node.{Node}
use Rattle.san_tree.specs.declared.node.Node.TheVariants.{Leaf, Join, Rep}
use Rattle.san_tree.specs.Places.{names, node_at}

-- a part by its node, the child and the child's place
abbrev pub SharePart : Type 0
SharePart = ℕ × ℕ × ℕ

abbrev pub same_part : SharePart → SharePart → Bool
same_part a b = (nat_eq a.0 b.0 && nat_eq a.1 b.1) && nat_eq a.2 b.2

-- the first where there is one
abbrev pub or_else : Option ℕ → Option ℕ → Option ℕ
or_else (Some v) later = Some v
or_else None later = later

-- the number by which a table knows a child: the copies of a replicate share alike
abbrev pub child_key : Node → ℕ → ℕ
child_key (Leaf _) child = 0
child_key (Join _ _) child = child
child_key (Rep _ _ _) child = 0

-- what a table knows of a node
abbrev pub known_as : Node → ℕ → ℕ → Option ℕ
known_as (Leaf _) child place = None
known_as (Join _ shares) child place = position (names child place) shares
known_as (Rep _ _ shares) child place = cond (nat_eq 0 child) (position (λ p. nat_eq p place) shares) None

-- a table of the first nodes
abbrev pub Knows : List Node → ℕ → (SharePart → Option ℕ) → Type 0
Knows nodes n found = (k c p : ℕ) → found (k, c, p) ≡ cond (nat_lt k n) (known_as (node_at nodes k) c p) None
