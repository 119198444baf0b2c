-- What is known of a model: how its atomics, its tree, its rewards and its cells fit together.
use Rattle.std.specs.Prelude.{ℕ, ◌≡◌, ◌≤◌, ◌<◌, IsTrue, List, [], length, map, All, Option, Some, slice_get}
use Rattle.san_tree.specs.declared.node.Node.{Node}
use Rattle.san_tree.specs.declared.node.Node.TheVariants.{Leaf, Join, Rep}
use Rattle.san_tree.specs.Places.{node_at, SharesApart, Keeps}
use Rattle.san_net.specs.Accepted.{IsAccepted, rewards_of}
use Rattle.san_net.specs.Apart.{AreApart}
use Rattle.san_net.specs.Laid.{IsSpan, TakesImpulses}
use Rattle.san_base.specs.Names.{is_name}
use Rattle.san_net.specs.declared.atomic.Atomic.{Atomic}
use Rattle.san_net.specs.declared.part.Reward.{Reward}

-- the children of a join, with their names
abbrev pub children_of : Node → List (List ℕ × ℕ)
children_of (Leaf _) = []
children_of (Join children _) = children
children_of (Rep _ _ _) = []

-- a cell has the initial value that its atomic's node shows at its place
abbrev pub ShowsValues : List Atomic → List (List (ℕ × ℕ)) → List Node → (ℕ → ℕ → Option ℕ) → Type 0
ShowsValues atomics cells nodes shown =
    (n a : ℕ) (x : Atomic) (c : List (ℕ × ℕ)) (i p e : ℕ) → n < length nodes → node_at nodes n ≡ Leaf a → slice_get atomics a ≡ Some x → slice_get cells a ≡ Some c → slice_get c i ≡ Some (p, e) → slice_get x.initial i ≡ shown n p

pub record IsComposed (system : List ℕ) (atomics : List Atomic) (nodes : List Node) (rewards : List Reward) (cells : List (List (ℕ × ℕ))) : Type 0 where
  pub accepted : All IsAccepted atomics
  -- a reward is on an atomic, each term's reward is one of the rewards, and an impulse's isn't at one tick
  pub few_rewards : length rewards ≤ 64
  pub spans : All (λ r. IsSpan r.span) rewards
  pub on : All (λ r. r.atomic < length atomics) rewards
  pub known : All (λ x. All (λ r. r < length rewards) (rewards_of x)) atomics
  pub intervals : All (λ x. All (λ t. TakesImpulses (slice_get rewards t.reward)) x.impulses) atomics
  -- a leaf's atomic is there
  pub leaves : (n a : ℕ) → n < length nodes → node_at nodes n ≡ Leaf a → a < length atomics
  -- each cell of an atomic is an element of a place, no two the same
  pub celled : length cells ≡ length atomics
  pub rows : (a : ℕ) (x : Atomic) (c : List (ℕ × ℕ)) → slice_get atomics a ≡ Some x → slice_get cells a ≡ Some c → (length c ≡ length x.initial) × AreApart c
  -- no two places of one child become one place
  pub apart : (n : ℕ) → SharesApart (node_at nodes n)
  -- the initial value that a node shows at a place, which a shared place keeps
  pub shown : ℕ → ℕ → Option ℕ
  pub keeps : Keeps nodes shown
  pub values : ShowsValues atomics cells nodes shown
  -- names as a path has them
  pub named : IsTrue (is_name system)
  pub children_named : (n : ℕ) → All (λ c. IsTrue (is_name c.0)) (children_of (node_at nodes n))
  pub children_apart : (n : ℕ) → AreApart (map (λ c. c.0) (children_of (node_at nodes n)))
