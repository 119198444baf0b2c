-- The path of a leaf leads to its node.
use Rattle.std.proofs.Common.{◌≡◌, ℕ, zero, suc, ◌+◌, ◌<◌, ◌≤◌, List, [], ◌∷◌, length, refl, ap, sym, ◌∙◌, subst, arith, inl, inr, ◌⊎◌}
use Rattle.std.proofs.lemmas.List.{get_or_past, get_or_default}
use Rattle.std.proofs.lemmas.List.Elements.{All-nil, All-cons, All-map, All-append, All-weaker}
use Rattle.std.proofs.lemmas.Bool.{cases_lt}
use Rattle.std.specs.List.{All}
use Rattle.std.specs.Prelude.{slice_index_or}
use Rattle.san_tree.specs.declared.instance.Instance.{Instance}
use Rattle.san_tree.specs.declared.node.Node.{Node}
use Rattle.san_tree.specs.declared.node.Node.TheVariants.{Leaf, Join, Rep}
use Rattle.san_tree.specs.Instances.{onto, below, joined, copied, instances_of, grown, instances, LeadsTo}
use Rattle.san_tree.specs.inner.Walks.{earlier}
use Rattle.san_tree.specs.Places.{node_at, node_of, child_of, reached}
use Rattle.san_tree.proofs.WalkLemmas.{instances-at, own-child, no-child, grown-long}

abbrev Lead : List Node → ℕ → List Instance → Type 0
Lead nodes n = All (LeadsTo nodes n)

-- the leaves of a child, seen from its node
child-leads : (nodes : List Node) (n m c : ℕ) (xs : List Instance) → child_of (node_at nodes n) c ≡ m → Lead nodes m xs → Lead nodes n (below c xs)
child-leads nodes n m c xs e h =
    All-map (LeadsTo nodes n) (onto (c ∷ [])) xs (All-weaker (LeadsTo nodes m) (λ i. LeadsTo nodes n (onto (c ∷ []) i)) (λ i w. ap (λ k. node_at nodes (reached nodes k i.path)) e ∙ w) xs h)

-- the leaves of the nodes before node n lead to theirs
abbrev EarlierLead : List Node → ℕ → Type 0
EarlierLead nodes n = (m : ℕ) → m < n → Lead nodes m (instances nodes m)

entry-leads : (nodes : List Node) (n m c : ℕ) → EarlierLead nodes n → child_of (node_at nodes n) c ≡ m → Lead nodes n (below c (slice_index_or (earlier nodes n) m []))
entry-leads nodes n m c h e = by_order (cases_lt m n)
  where
    by_order : (m < n) ⊎ (n ≤ m) → Lead nodes n (below c (slice_index_or (earlier nodes n) m []))
    by_order (inl before) = subst (λ xs. Lead nodes n (below c xs)) (sym (own-child nodes n m before)) (child-leads nodes n m c (instances nodes m) e (h m before))
    by_order (inr past) = subst (λ xs. Lead nodes n (below c xs)) (sym (no-child nodes n m past)) (All-nil (LeadsTo nodes n))

joined-leads : (nodes : List Node) (n c : ℕ) (children : List (List ℕ × ℕ)) → EarlierLead nodes n → ((j : ℕ) → j < length children → child_of (node_at nodes n) (c + j) ≡ node_of children j) → Lead nodes n (joined (earlier nodes n) c children)
joined-leads nodes n c [] h e = All-nil (LeadsTo nodes n)
joined-leads nodes n c (child ∷ children) h e =
    let here : c + 0 ≡ c = omega arith in
    All-append (LeadsTo nodes n) (below c (slice_index_or (earlier nodes n) child.1 [])) (joined (earlier nodes n) (c + 1) children) (entry-leads nodes n child.1 c h (subst (λ k. child_of (node_at nodes n) k ≡ child.1) here (e 0 (omega arith)))) (joined-leads nodes n (c + 1) children h (λ j within. later j (e (suc j) (omega (arith, within)))))
  where
    later : (j : ℕ) → child_of (node_at nodes n) (c + suc j) ≡ node_of (child ∷ children) (suc j) → child_of (node_at nodes n) ((c + 1) + j) ≡ node_of children j
    later j is = let next : c + suc j ≡ (c + 1) + j = omega arith in subst (λ k. child_of (node_at nodes n) k ≡ node_of children j) next is

copied-leads : (nodes : List Node) (n : ℕ) (xs : List Instance) → ((c : ℕ) → Lead nodes n (below c xs)) → (c times : ℕ) → Lead nodes n (copied xs c times)
copied-leads nodes n xs h c zero = All-nil (LeadsTo nodes n)
copied-leads nodes n xs h c (suc times) = All-append (LeadsTo nodes n) (below c xs) (copied xs (c + 1) times) (h c) (copied-leads nodes n xs h (c + 1) times)

node-leads : (nodes : List Node) (n : ℕ) (node : Node) → EarlierLead nodes n → node_at nodes n ≡ node → Lead nodes n (instances_of (earlier nodes n) node)
node-leads nodes n (Leaf atomic) h e = All-cons (LeadsTo nodes n) (record { path = []; atomic = atomic }) [] e (All-nil (LeadsTo nodes n))
node-leads nodes n (Join children shares) h e = joined-leads nodes n 0 children h (λ j within. subst (λ k. child_of (node_at nodes n) k ≡ node_of children j) (zero-more j) (ap (λ node. child_of node j) e))
  where
    zero-more : (j : ℕ) → j ≡ 0 + j
    zero-more j = omega arith
node-leads nodes n (Rep m times shares) h e = copied-leads nodes n (slice_index_or (earlier nodes n) m []) (λ c. entry-leads nodes n m c h (ap (λ node. child_of node c) e)) 0 times

one-leads : (nodes : List Node) (n : ℕ) → EarlierLead nodes n → Lead nodes n (instances nodes n)
one-leads nodes n h = by_order (cases_lt n (length nodes))
  where
    by_order : (n < length nodes) ⊎ (length nodes ≤ n) → Lead nodes n (instances nodes n)
    by_order (inl within) = subst (Lead nodes n) (sym (instances-at nodes n (node_at nodes n) within (get_or_default nodes n (Leaf 0) (node_at nodes n) within))) (node-leads nodes n (node_at nodes n) h refl)
    by_order (inr past) = subst (Lead nodes n) (sym (get_or_past (grown [] nodes) n [] (omega (arith, past, grown-long nodes)))) (All-nil (LeadsTo nodes n))

before : (nodes : List Node) (n : ℕ) → EarlierLead nodes n
before nodes zero m h = absurd (omega (arith, h))
before nodes (suc n) m h = by_order (before nodes n) (cases_lt m n)
  where
    by_order : EarlierLead nodes n → (m < n) ⊎ (n ≤ m) → Lead nodes m (instances nodes m)
    by_order rest (inl less) = rest m less
    by_order rest (inr same) = let e : n ≡ m = omega (arith, h, same) in subst (λ k. Lead nodes k (instances nodes k)) e (one-leads nodes n rest)

pub paths-lead : (nodes : List Node) (root : ℕ) → All (LeadsTo nodes root) (instances nodes root)
paths-lead nodes root = one-leads nodes root (before nodes root)
