-- A climb over a path with one more number in front.
use Rattle.std.proofs.Common.{◌≡◌, ℕ, zero, suc, ◌+◌, ◌<◌, ◌≤◌, List, [], ◌∷◌, Some, None, length, take, drop, ◌-◌, refl, ap, sym, ◌∙◌, arith}
use Rattle.std.specs.Prelude.{slice_index}
use Rattle.std.proofs.lemmas.List.{take_all}
use Rattle.san_tree.specs.declared.node.Node.{Node}
use Rattle.san_tree.specs.Places.{PathStep, node_at, child_of, shared_as, chain, climb, home, either}
use Rattle.san_tree.specs.declared.home.Home.{Home}
use Rattle.san_tree.specs.inner.Walks.{settled}

pub chain-end : (nodes : List Node) (n : ℕ) (path : List ℕ) (above : List PathStep) → length path < 1 → chain nodes n path above ≡ above
chain-end nodes n [] above h = refl
chain-end nodes n (c ∷ path) above h = absurd (omega (arith, h))

pub chain-front : (nodes : List Node) (n m : ℕ) (path : List ℕ) (above : List PathStep) → m ≡ child_of (node_at nodes n) (slice_index path 0) → 1 ≤ length path → chain nodes n path above ≡ chain nodes m (take (length path - 1) (drop 1 path)) ((node_at nodes n, slice_index path 0) ∷ above)
chain-front nodes n m [] above e h = absurd (omega (arith, h))
chain-front nodes n m (c ∷ path) above e h =
    ap (λ k. chain nodes k path ((node_at nodes n, c) ∷ above)) (sym e) ∙ ap (λ r. chain nodes m r ((node_at nodes n, c) ∷ above)) (sym (take_all (length (c ∷ path) - 1) path (omega arith)))

pub settled-zero : (place : ℕ) (above : List PathStep) → settled 0 place above ≡ climb place above
unfolding settled
settled-zero place above = refl

abbrev pub at_depth : ℕ → ℕ → Home
at_depth d p = record { depth = d; place = p }

pub settled-up : (depth place : ℕ) (s : PathStep) (above : List PathStep) → 0 < depth → settled depth place (s ∷ above) ≡ settled (depth + 1) place above
unfolding settled
settled-up zero place s above h = absurd (omega (arith, h))
settled-up (suc depth) place s above h =
    let one : suc (suc depth) ≡ suc depth + 1 = omega arith in
    let same : length (s ∷ above) + suc depth ≡ length above + suc (suc depth) = omega arith in
    ap (λ d. at_depth d place) same ∙ ap (λ k. settled k place above) one

pub settled-shared : (depth q p : ℕ) (node : Node) (c : ℕ) (above : List PathStep) → depth ≡ 0 → shared_as node c q ≡ Some p → settled depth q ((node, c) ∷ above) ≡ settled 0 p above
unfolding settled climb
settled-shared zero q p node c above e h = ap (either (at_depth (length above + 1) q) (λ r. climb r above)) h
settled-shared (suc d) q p node c above e h = absurd (omega (arith, e))

pub settled-unshared : (depth q : ℕ) (node : Node) (c : ℕ) (above : List PathStep) → depth ≡ 0 → shared_as node c q ≡ None → settled depth q ((node, c) ∷ above) ≡ settled 1 q above
unfolding settled climb
settled-unshared zero q node c above e h = ap (either (at_depth (length above + 1) q) (λ r. climb r above)) h
settled-unshared (suc d) q node c above e h = absurd (omega (arith, e))

settled-end : (d p : ℕ) → settled d p [] ≡ at_depth d p
unfolding settled climb
settled-end zero p = refl
settled-end (suc d) p = let same : 0 + suc d ≡ suc d = omega arith in ap (λ k. at_depth k p) same

pub home-settled : (nodes : List Node) (root : ℕ) (path : List ℕ) (place d p : ℕ) → climb place (chain nodes root path []) ≡ settled d p [] → at_depth d p ≡ home nodes root path place
unfolding home
home-settled nodes root path place d p h = sym (h ∙ settled-end d p)
