-- Nodes that name only earlier ones.
use Rattle.std.proofs.Common.{◌≡◌, ◌↔◌, ℕ, ◌<◌, ◌≤◌, List, [], ◌∷◌, length, ap, sym, ◌∙◌, subst, arith, map}
use Rattle.std.proofs.lemmas.List.{length-map}
use Rattle.std.proofs.lemmas.List.Elements.{All-nil, All-cons, All-head, All-tail, All-map}
use Rattle.std.specs.List.{All}
use Rattle.san_tree.specs.declared.node.Node.{Node}
use Rattle.san_tree.specs.declared.node.Node.TheVariants.{Join}
use Rattle.san_tree.specs.declared.share.Share.{Share}
use Rattle.san_tree.specs.declared.limits.TheConstants.{MAX_CHILDREN, MAX_SHARES}
use Rattle.san_tree.specs.Trees.{IsNode}

all_before : (n : ℕ) (xs : List (List ℕ × ℕ)) → All (λ m. m < n) (map (λ child. child.1) xs) → All (λ child. child.1 < n) xs
all_before n [] h = All-nil (λ (child : List ℕ × ℕ). child.1 < n)
all_before n (x ∷ xs) h = All-cons (λ (child : List ℕ × ℕ). child.1 < n) x xs (All-head (λ m. m < n) x.1 (map (λ child. child.1) xs) h) (all_before n xs (All-tail (λ m. m < n) x.1 (map (λ child. child.1) xs) h))

of_join : (n : ℕ) (children : List (List ℕ × ℕ)) (shares : List Share) → length shares ≤ MAX_SHARES → ((length children ≤ MAX_CHILDREN) × All (λ child. child.1 < n) children) ↔ IsNode n (Join children shares)
of_join n children shares few =
    let long = length-map children (λ child. child.1) in
    (λ h. record { earlier = All-map (λ m. m < n) (λ child. child.1) children h.1; few_children = omega (arith, h.0, long); few_shares = few }, λ v. (omega (arith, v.few_children, long), all_before n children v.earlier))

pub join-valid : (n : ℕ) (node : Node) (xs children : List (List ℕ × ℕ)) (shares : List Share) → node ≡ Join children shares → xs ≡ children → length shares ≤ MAX_SHARES → ((length xs ≤ MAX_CHILDREN) × All (λ child. child.1 < n) xs) ↔ IsNode n node
join-valid n node xs children shares is same few =
    subst (λ k. ((length xs ≤ MAX_CHILDREN) × All (λ child. child.1 < n) xs) ↔ IsNode n k) (ap (λ ys. Join ys shares) same ∙ sym is) (of_join n xs shares few)
