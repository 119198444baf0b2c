-- Two places of one leaf have two homes.
use Rattle.std.proofs.Common.{◌≡◌, ℕ, ◌+◌, ◌≤◌, List, [], ◌∷◌, Option, Some, None, length, refl, ap, sym, ◌∙◌, arith}
use Rattle.san_tree.specs.declared.node.Node.{Node}
use Rattle.san_tree.specs.Places.{PathStep, node_at, child_of, shared_as, chain, climb, home, either, SharesApart}
use Rattle.san_tree.specs.declared.home.Home.{Home}

abbrev at_depth : ℕ → ℕ → Home
at_depth d p = record { depth = d; place = p }

abbrev AllApart : List PathStep → Type 0
AllApart [] = Unit {0}
AllApart ((node, c) ∷ above) = SharesApart node × AllApart above

chain-apart : (nodes : List Node) → ((n : ℕ) → SharesApart (node_at nodes n)) → (n : ℕ) (path : List ℕ) (above : List PathStep) → AllApart above → AllApart (chain nodes n path above)
chain-apart nodes h n [] above a = a
chain-apart nodes h n (c ∷ path) above a = chain-apart nodes h (child_of (node_at nodes n) c) path ((node_at nodes n, c) ∷ above) (h n, a)

pub climb-near : (p : ℕ) (above : List PathStep) → (climb p above).depth ≤ length above
unfolding climb
climb-near p [] = omega arith
climb-near p ((node, c) ∷ above) = by_share (shared_as node c p) (λ q. climb-near q above)
  where
    by_share : (o : Option ℕ) → ((q : ℕ) → (climb q above).depth ≤ length above) → (either (at_depth (length above + 1) p) (λ q. climb q above) o).depth ≤ length ((node, c) ∷ above)
    by_share None h = omega arith
    by_share (Some q) h = omega (arith, h q)

climb-apart : (above : List PathStep) → AllApart above → (p q : ℕ) → climb p above ≡ climb q above → p ≡ q
unfolding climb
climb-apart [] a p q h = ap (λ v. v.place) h
climb-apart ((node, c) ∷ above) a p q h = by_share (shared_as node c p) (shared_as node c q) refl refl (λ x y. climb-apart above a.1 x y) h
  where
    by_share : (o r : Option ℕ) → shared_as node c p ≡ o → shared_as node c q ≡ r → ((x y : ℕ) → climb x above ≡ climb y above → x ≡ y) → either (at_depth (length above + 1) p) (λ x. climb x above) o ≡ either (at_depth (length above + 1) q) (λ x. climb x above) r → p ≡ q
    by_share None None e f rest i = ap (λ v. v.place) i
    by_share None (Some y) e f rest i = let near = climb-near y above in let d : length above + 1 ≡ (climb y above).depth = ap (λ v. v.depth) i in absurd (omega (arith, near, d))
    by_share (Some x) None e f rest i = let near = climb-near x above in let d : (climb x above).depth ≡ length above + 1 = ap (λ v. v.depth) i in absurd (omega (arith, near, d))
    by_share (Some x) (Some y) e f rest i = a.0 c p q x e (f ∙ ap Some (sym (rest x y i)))

pub home-apart : (nodes : List Node) → ((n : ℕ) → SharesApart (node_at nodes n)) → (root : ℕ) (path : List ℕ) (p q : ℕ) → home nodes root path p ≡ home nodes root path q → p ≡ q
unfolding home
home-apart nodes h root path p q e = climb-apart (chain nodes root path []) (chain-apart nodes h root path [] tt) p q e
