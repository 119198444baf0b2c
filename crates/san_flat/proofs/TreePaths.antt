-- The paths of a tree's leaves: each goes over children that are there, and no two are one.
use Rattle.std.proofs.Common.{◌≡◌, ℕ, zero, suc, ◌+◌, ◌<◌, ◌≤◌, List, [], ◌∷◌, ◌++◌, length, refl, ap, sym, ◌∙◌, subst, arith, map, inl, inr, ◌⊎◌, Some, length-append, get_or, drop}
use Rattle.std.specs.Prelude.{slice_get, slice_index_or}
use Rattle.std.specs.List.{All}
use Rattle.std.proofs.lemmas.Bool.{cases_lt}
use Rattle.std.proofs.lemmas.List.{get_or_default, get_or_past, length-map, map-append}
use Rattle.std.proofs.lemmas.List.Elements.{All-append, All-cons, All-map, All-nil}
use Rattle.std.proofs.lemmas.Option.{slice_get_within, get_or_from_slice_get}
use Rattle.san_flat.proofs.ListLemmas.{apart-append, apart-map, apart-nil, got-map}
use Rattle.san_net.specs.Apart.{AreApart}
use Rattle.san_tree.proofs.LeafLemmas.{length-below}
use Rattle.san_tree.proofs.WalkLemmas.{grown-long, instances-at, no-child, own-child}
use Rattle.san_tree.specs.Instances.{below, copied, grown, instances, instances_of, joined, onto}
use Rattle.san_tree.specs.inner.Walks.{earlier}
use Rattle.san_tree.specs.Places.{child_of, node_at, node_of}
use Rattle.san_tree.specs.declared.instance.Instance.{Instance}
use Rattle.san_tree.specs.declared.node.Node.{Node}
use Rattle.san_tree.specs.declared.node.Node.TheVariants.{Leaf, Join, Rep}

abbrev pub HasChild : Node → ℕ → Type 0
HasChild (Leaf _) c = ⊥
HasChild (Join children _) c = c < length children
HasChild (Rep _ times _) c = c < 4096

abbrev pub IsLeaf : Node → Type 0
IsLeaf (Leaf _) = Unit {0}
IsLeaf (Join _ _) = ⊥
IsLeaf (Rep _ _ _) = ⊥

-- the path goes from node n over children that are there to a leaf that is there
abbrev pub IsPath : List Node → ℕ → List ℕ → Type 0
IsPath nodes n [] = (n < length nodes) × IsLeaf (node_at nodes n)
IsPath nodes n (c ∷ path) = HasChild (node_at nodes n) c × IsPath nodes (child_of (node_at nodes n) c) path

abbrev path_in : Instance → List ℕ
path_in i = i.path

pub record ArePaths (nodes : List Node) (n : ℕ) (xs : List Instance) : Type 0 where
  pub each : All (λ i. IsPath nodes n i.path) xs
  pub apart : AreApart (map path_in xs)

-- what holds of each node's leaves, from that of the earlier nodes' leaves
module _ (nodes : List Node) (R : ℕ → List Instance → Type 0) (none : (n : ℕ) → R n []) (step : (n : ℕ) → n < length nodes → ((m : ℕ) → m < n → R m (instances nodes m)) → R n (instances_of (earlier nodes n) (node_at nodes n))) where
  one : (n : ℕ) → ((m : ℕ) → m < n → R m (instances nodes m)) → R n (instances nodes n)
  one n h = by_order (cases_lt n (length nodes))
    where
      by_order : (n < length nodes) ⊎ (length nodes ≤ n) → R n (instances nodes n)
      by_order (inl within) = subst (R n) (sym (instances-at nodes n (node_at nodes n) within (get_or_default nodes n (Leaf 0) (node_at nodes n) within))) (step n within h)
      by_order (inr past) = subst (R n) (sym (get_or_past (grown [] nodes) n [] (omega (arith, past, grown-long nodes)))) (none n)

  all_before : (n m : ℕ) → m < n → R m (instances nodes m)
  all_before zero m h = absurd (omega (arith, h))
  all_before (suc n) m h = by_order (all_before n) (cases_lt m n)
    where
      by_order : ((k : ℕ) → k < n → R k (instances nodes k)) → (m < n) ⊎ (n ≤ m) → R m (instances nodes m)
      by_order rest (inl less) = rest m less
      by_order rest (inr same) = let e : n ≡ m = omega (arith, h, same) in subst (λ k. R k (instances nodes k)) e (one n rest)

  by_nodes : (n : ℕ) → R n (instances nodes n)
  by_nodes n = one n (all_before n)

abbrev StartsFrom : ℕ → List ℕ → Type 0
StartsFrom c [] = ⊥
StartsFrom c (d ∷ path) = c ≤ d

-- leaves below a node's children from child c on
record AreFrom (nodes : List Node) (n c : ℕ) (xs : List Instance) : Type 0 where
  each : All (λ i. IsPath nodes n i.path) xs
  heads : All (λ i. StartsFrom c i.path) xs
  apart : AreApart (map path_in xs)

none-from : (nodes : List Node) (n c : ℕ) → AreFrom nodes n c []
none-from nodes n c = record { each = All-nil _; heads = All-nil _; apart = apart-nil }

cons-tells : (c : ℕ) (p q : List ℕ) → c ∷ p ≡ c ∷ q → p ≡ q
cons-tells c p q e = ap (drop 1) e

below-paths : (c : ℕ) (xs : List Instance) → map path_in (below c xs) ≡ map (λ p. c ∷ p) (map path_in xs)
below-paths c [] = refl
below-paths c (i ∷ xs) = ap (λ ps. (c ∷ i.path) ∷ ps) (below-paths c xs)

below-apart : (c : ℕ) (xs : List Instance) → AreApart (map path_in xs) → AreApart (map path_in (below c xs))
below-apart c xs a = subst AreApart (sym (below-paths c xs)) (apart-map (λ p. c ∷ p) (map path_in xs) a (λ i j p q _ _ e. cons-tells c p q e))

-- a path below child c isn't one below a later child
later-differs : (c : ℕ) (xs ys : List Instance) → All (λ i. StartsFrom (c + 1) i.path) ys → (i j : ℕ) (p : List ℕ) → slice_get (map path_in (below c xs)) i ≡ Some p → slice_get (map path_in ys) j ≡ Some p → ⊥
later-differs c xs ys heads i j p at there =
    let a = got-map (λ q. c ∷ q) (map path_in xs) i p (ap (λ ps. slice_get ps i) (sym (below-paths c xs)) ∙ at) in
    let b = got-map path_in ys j p there in
    let from : StartsFrom (c + 1) b.0.path = subst (λ k. StartsFrom (c + 1) k.path) (get_or_from_slice_get ys j b.0 b.0 b.1.0) (heads j b.0 (slice_get_within ys j b.0 b.1.0)) in
    let same : StartsFrom (c + 1) (c ∷ a.0) = subst (StartsFrom (c + 1)) (b.1.1 ∙ sym a.1.1) from in
    omega (arith, same)

abbrev PathAt : List Node → ℕ → Instance → Type 0
PathAt nodes n i = IsPath nodes n i.path

abbrev HeadAt : ℕ → Instance → Type 0
HeadAt c i = StartsFrom c i.path

-- the leaves of child c before those of later children
child-front : (nodes : List Node) (n m c : ℕ) (xs ys : List Instance) → child_of (node_at nodes n) c ≡ m → ((k : ℕ) → k < length xs → HasChild (node_at nodes n) c) → ArePaths nodes m xs → AreFrom nodes n (c + 1) ys → AreFrom nodes n c (below c xs ++ ys)
child-front nodes n m c xs ys e has a rest = record {
  each = All-append (PathAt nodes n) (below c xs) ys (All-map (PathAt nodes n) (onto (c ∷ [])) xs (λ k d l. (has k l, subst (λ j. IsPath nodes j (get_or xs k d).path) (sym e) (a.each k d l)))) rest.each;
  heads = All-append (HeadAt c) (below c xs) ys (All-map (HeadAt c) (onto (c ∷ [])) xs (λ k d l. omega arith)) (λ k d l. weaker (get_or ys k d).path (rest.heads k d l));
  apart = subst AreApart (sym (map-append path_in (below c xs) ys)) (apart-append (map path_in (below c xs)) (map path_in ys) (below-apart c xs a.apart) rest.apart (later-differs c xs ys rest.heads));
}
  where
    weaker : (p : List ℕ) → StartsFrom (c + 1) p → StartsFrom c p
    weaker [] h = h
    weaker (d ∷ p) h = omega (arith, h)

-- the leaves of the nodes before node n have such paths, where there are few of them
abbrev HavePaths : List Node → ℕ → List Instance → Type 0
HavePaths nodes n xs = length xs ≤ 4096 → ArePaths nodes n xs

no-paths : (nodes : List Node) (n : ℕ) → HavePaths nodes n []
no-paths nodes n few = record { each = All-nil (PathAt nodes n); apart = apart-nil }

entry-paths : (nodes : List Node) (n m : ℕ) → ((k : ℕ) → k < n → HavePaths nodes k (instances nodes k)) → HavePaths nodes m (slice_index_or (earlier nodes n) m [])
entry-paths nodes n m h = by_order (cases_lt m n)
  where
    by_order : (m < n) ⊎ (n ≤ m) → HavePaths nodes m (slice_index_or (earlier nodes n) m [])
    by_order (inl before) = subst (HavePaths nodes m) (sym (own-child nodes n m before)) (h m before)
    by_order (inr past) = subst (HavePaths nodes m) (sym (no-child nodes n m past)) (no-paths nodes m)

joined-from : (nodes : List Node) (n c : ℕ) (children : List (List ℕ × ℕ)) → ((m : ℕ) → HavePaths nodes m (slice_index_or (earlier nodes n) m [])) → ((j : ℕ) → j < length children → (child_of (node_at nodes n) (c + j) ≡ node_of children j) × HasChild (node_at nodes n) (c + j)) → length (joined (earlier nodes n) c children) ≤ 4096 → AreFrom nodes n c (joined (earlier nodes n) c children)
joined-from nodes n c [] h e few = none-from nodes n c
joined-from nodes n c (child ∷ children) h e few =
    let leaves = slice_index_or (earlier nodes n) child.1 [] in
    let here : c + 0 ≡ c = omega arith in
    let first = e 0 (omega arith) in
    let long = length-append (below c leaves) (joined (earlier nodes n) (c + 1) children) in
    let some = length-below c leaves in
    child-front nodes n child.1 c leaves (joined (earlier nodes n) (c + 1) children)
    (subst (λ k. child_of (node_at nodes n) k ≡ child.1) here first.0)
    (λ _ _. subst (HasChild (node_at nodes n)) here first.1)
    (h child.1 (omega (arith, long, some, few)))
    (joined-from nodes n (c + 1) children h (λ j within. later j (e (suc j) (omega (arith, within)))) (omega (arith, long, few)))
  where
    later : (j : ℕ) → (child_of (node_at nodes n) (c + suc j) ≡ node_of (child ∷ children) (suc j)) × HasChild (node_at nodes n) (c + suc j) → (child_of (node_at nodes n) ((c + 1) + j) ≡ node_of children j) × HasChild (node_at nodes n) ((c + 1) + j)
    later j is = let next : c + suc j ≡ (c + 1) + j = omega arith in subst (λ k. (child_of (node_at nodes n) k ≡ node_of children j) × HasChild (node_at nodes n) k) next is

copied-none : (c times : ℕ) → copied [] c times ≡ []
copied-none c zero = refl
copied-none c (suc times) = copied-none (c + 1) times

-- each copy has a leaf, so there are no more copies than leaves
copied-from : (nodes : List Node) (n m : ℕ) (xs : List Instance) → 0 < length xs → HavePaths nodes m xs → ((c : ℕ) → (child_of (node_at nodes n) c ≡ m) × (c < 4096 → HasChild (node_at nodes n) c)) → (c times : ℕ) → length (copied xs c times) + c ≤ 4096 → AreFrom nodes n c (copied xs c times)
copied-from nodes n m xs some h e c zero few = none-from nodes n c
copied-from nodes n m xs some h e c (suc times) few =
    let long = length-append (below c xs) (copied xs (c + 1) times) in
    let each = length-below c xs in
    child-front nodes n m c xs (copied xs (c + 1) times) (e c).0
    (λ _ _. (e c).1 (omega (arith, few, long, each, some)))
    (h (omega (arith, few, long, each)))
    (copied-from nodes n m xs some h e (c + 1) times (omega (arith, few, long, each, some)))

copies-from : (nodes : List Node) (n m : ℕ) (xs : List Instance) → HavePaths nodes m xs → ((c : ℕ) → (child_of (node_at nodes n) c ≡ m) × (c < 4096 → HasChild (node_at nodes n) c)) → (times : ℕ) → length (copied xs 0 times) ≤ 4096 → AreFrom nodes n 0 (copied xs 0 times)
copies-from nodes n m [] h e times few = subst (AreFrom nodes n 0) (sym (copied-none 0 times)) (none-from nodes n 0)
copies-from nodes n m (x ∷ xs) h e times few = copied-from nodes n m (x ∷ xs) (omega arith) h e 0 times (omega (arith, few))

leaf-apart : (x : Instance) → AreApart (map path_in (x ∷ []))
leaf-apart x zero zero p a b = refl
leaf-apart x zero (suc j) p a b = absurd cc
leaf-apart x (suc i) j p a b = absurd cc

from-paths : (nodes : List Node) (n : ℕ) (xs : List Instance) → AreFrom nodes n 0 xs → ArePaths nodes n xs
from-paths nodes n xs a = record { each = a.each; apart = a.apart }

node-paths : (nodes : List Node) (n : ℕ) (node : Node) → n < length nodes → ((k : ℕ) → k < n → HavePaths nodes k (instances nodes k)) → node_at nodes n ≡ node → HavePaths nodes n (instances_of (earlier nodes n) node)
node-paths nodes n (Leaf atomic) within h e few = record {
  each = All-cons (PathAt nodes n) (record { path = []; atomic = atomic }) [] (within, subst IsLeaf (sym e) tt) (All-nil (PathAt nodes n));
  apart = leaf-apart (record { path = []; atomic = atomic });
}
node-paths nodes n (Join children shares) within h e few =
    from-paths nodes n (joined (earlier nodes n) 0 children) (joined-from nodes n 0 children (λ m. entry-paths nodes n m h) (λ j l. child-there j l) few)
  where
    child-there : (j : ℕ) → j < length children → (child_of (node_at nodes n) (0 + j) ≡ node_of children j) × HasChild (node_at nodes n) (0 + j)
    child-there j l = let same : j ≡ 0 + j = omega arith in subst (λ k. (child_of (node_at nodes n) k ≡ node_of children j) × HasChild (node_at nodes n) k) same (subst (λ node. (child_of node j ≡ node_of children j) × HasChild node j) (sym e) (refl, l))
node-paths nodes n (Rep m times shares) within h e few =
    from-paths nodes n (copied (slice_index_or (earlier nodes n) m []) 0 times) (copies-from nodes n m (slice_index_or (earlier nodes n) m []) (entry-paths nodes n m h) (λ c. subst (λ node. (child_of node c ≡ m) × (c < 4096 → HasChild node c)) (sym e) (refl, λ l. l)) times few)

-- the leaves of a tree that has few of them have such paths
pub paths-are : (nodes : List Node) (root : ℕ) → length (instances nodes root) ≤ 4096 → ArePaths nodes root (instances nodes root)
paths-are nodes root = by_nodes nodes (HavePaths nodes) (no-paths nodes) (λ n within h. node-paths nodes n (node_at nodes n) within h refl) root
