-- A path below a node has at most as many numbers as there are earlier nodes.
use Rattle.std.proofs.Common.{◌≡◌, ℕ, zero, suc, ◌+◌, ◌<◌, ◌≤◌, List, [], ◌∷◌, ◌++◌, length, sym, subst, arith, length-append, inl, inr, ◌⊎◌}
use Rattle.std.proofs.lemmas.List.{get_or_append_left, get_or_push, get_or_past}
use Rattle.std.proofs.lemmas.List.Elements.{All-nil, All-cons, All-map, All-append, All-weaker}
use Rattle.std.proofs.lemmas.Bool.{cases_lt, cases_order}
use Rattle.std.specs.List.{All}
use Rattle.std.specs.Prelude.{slice_index_or}
use Rattle.san_tree.specs.declared.instance.Instance.{Instance}
use Rattle.san_tree.specs.declared.node.Node.{Node}
use Rattle.san_tree.specs.declared.node.Node.TheVariants.{Leaf, Join, Rep}
use Rattle.san_tree.specs.declared.limits.TheConstants.{MAX_PATH}
use Rattle.san_tree.specs.Instances.{onto, below, joined, copied, instances_of, grown, instances, IsWithin}

abbrev AreWithin : ℕ → List Instance → Type 0
AreWithin n = All (IsWithin n)

abbrev IsShallow : List (List Instance) → Type 0
IsShallow table = (k : ℕ) → AreWithin k (slice_index_or table k [])

one-more : (n m c : ℕ) (xs : List Instance) → n < m → AreWithin n xs → AreWithin m (below c xs)
one-more n m c xs h a = All-map (IsWithin m) (onto (c ∷ [])) xs (All-weaker (IsWithin n) (λ i. IsWithin m (onto (c ∷ []) i)) (λ i w. omega (arith, h, w)) xs a)

entry-within : (table : List (List Instance)) → IsShallow table → (k c : ℕ) → AreWithin (length table) (below c (slice_index_or table k []))
entry-within table h k c = by_order (cases_lt k (length table))
  where
    by_order : (k < length table) ⊎ (length table ≤ k) → AreWithin (length table) (below c (slice_index_or table k []))
    by_order (inl there) = one-more k (length table) c (slice_index_or table k []) there (h k)
    by_order (inr past) = subst (λ xs. AreWithin (length table) (below c xs)) (sym (get_or_past table k [] past)) (All-nil (IsWithin (length table)))

joined-within : (table : List (List Instance)) → IsShallow table → (c : ℕ) (children : List (List ℕ × ℕ)) → AreWithin (length table) (joined table c children)
joined-within table h c [] = All-nil (IsWithin (length table))
joined-within table h c (child ∷ children) = All-append (IsWithin (length table)) (below c (slice_index_or table child.1 [])) (joined table (c + 1) children) (entry-within table h child.1 c) (joined-within table h (c + 1) children)

copied-within : (m : ℕ) (xs : List Instance) → ((c : ℕ) → AreWithin m (below c xs)) → (c times : ℕ) → AreWithin m (copied xs c times)
copied-within m xs h c zero = All-nil (IsWithin m)
copied-within m xs h c (suc times) = All-append (IsWithin m) (below c xs) (copied xs (c + 1) times) (h c) (copied-within m xs h (c + 1) times)

node-within : (table : List (List Instance)) → IsShallow table → (node : Node) → AreWithin (length table) (instances_of table node)
node-within table h (Leaf atomic) = All-cons (IsWithin (length table)) (record { path = []; atomic = atomic }) [] (omega arith) (All-nil (IsWithin (length table)))
node-within table h (Join children shares) = joined-within table h 0 children
node-within table h (Rep node times shares) = copied-within (length table) (slice_index_or table node []) (λ c. entry-within table h node c) 0 times

shallow-push : (table : List (List Instance)) (xs : List Instance) → IsShallow table → AreWithin (length table) xs → IsShallow (table ++ xs ∷ [])
shallow-push table xs h a k = by_order (cases_order k (length table))
  where
    by_order : (k ≡ length table) ⊎ ((k < length table) ⊎ (length table < k)) → AreWithin k (slice_index_or (table ++ xs ∷ []) k [])
    by_order (inl here) = subst (λ n. AreWithin n (slice_index_or (table ++ xs ∷ []) k [])) (sym here) (subst (AreWithin (length table)) (sym (get_or_push table xs [] k (sym here))) a)
    by_order (inr (inl there)) = subst (AreWithin k) (sym (get_or_append_left table (xs ∷ []) [] k there)) (h k)
    by_order (inr (inr past)) = subst (AreWithin k) (sym (get_or_past (table ++ xs ∷ []) k [] (omega (arith, past, length-append table (xs ∷ []))))) (All-nil (IsWithin k))

grown-shallow : (table : List (List Instance)) (nodes : List Node) → IsShallow table → IsShallow (grown table nodes)
grown-shallow table [] h = h
grown-shallow table (node ∷ nodes) h = grown-shallow (table ++ instances_of table node ∷ []) nodes (shallow-push table (instances_of table node) h (node-within table h node))

empty-shallow : IsShallow []
empty-shallow k = subst (AreWithin k) (sym (get_or_past [] k [] (omega arith))) (All-nil (IsWithin k))

pub paths-within : (nodes : List Node) (root : ℕ) (xs : List Instance) → root ≤ MAX_PATH → xs ≡ instances nodes root → All (IsWithin MAX_PATH) xs
paths-within nodes root xs h e =
    subst (All (IsWithin MAX_PATH)) (sym e) (All-weaker (IsWithin root) (IsWithin MAX_PATH) (λ i w. omega (arith, h, w)) (instances nodes root) (grown-shallow [] nodes empty-shallow root))
