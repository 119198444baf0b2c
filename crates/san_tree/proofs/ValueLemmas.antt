-- What sharing keeps, a climb keeps.
use Rattle.std.proofs.Common.{◌≡◌, ℕ, zero, suc, ◌+◌, List, [], ◌∷◌, Option, Some, None, take, refl, ap, sym, ◌∙◌, arith}
use Rattle.san_tree.specs.declared.node.Node.{Node}
use Rattle.san_tree.specs.declared.home.Home.{Home}
use Rattle.san_tree.specs.Places.{PathStep, node_at, child_of, shared_as, chain, climb, home, reached, Keeps}
use Rattle.san_tree.specs.inner.Walks.{settled}
use Rattle.san_tree.proofs.ClimbLemmas.{settled-zero, settled-up, settled-shared, settled-unshared, home-settled}

-- where a climb from the end of a path stops, seen from node n, and that it kept what is shown
record Climbs {V : Type 0} (nodes : List Node) (shown : ℕ → ℕ → V) (n : ℕ) (path : List ℕ) (p : ℕ) : Type 0 where
  depth : ℕ
  place : ℕ
  way : (above : List PathStep) → climb p (chain nodes n path above) ≡ settled depth place above
  kept : shown (reached nodes n (take depth path)) place ≡ shown (reached nodes n path) p

climbs : {V : Type 0} (nodes : List Node) (shown : ℕ → ℕ → V) → Keeps nodes shown → (n : ℕ) (path : List ℕ) (p : ℕ) → Climbs nodes shown n path p
climbs nodes shown h n [] p = record { depth = 0; place = p; way = λ above. sym (settled-zero p above); kept = refl }
climbs nodes shown h n (c ∷ path) p = by_share (climbs nodes shown h (child_of (node_at nodes n) c) path p)
  where
    by_depth : (d q : ℕ) → ((above : List PathStep) → climb p (chain nodes (child_of (node_at nodes n) c) path above) ≡ settled d q above) → shown (reached nodes (child_of (node_at nodes n) c) (take d path)) q ≡ shown (reached nodes (child_of (node_at nodes n) c) path) p → (o : Option ℕ) → shared_as (node_at nodes n) c q ≡ o → Climbs nodes shown n (c ∷ path) p
    by_depth (suc d) q w k o e =
        let up : suc d + 1 ≡ suc (suc d) = omega arith in
        record { depth = suc (suc d); place = q; way = λ above. w ((node_at nodes n, c) ∷ above) ∙ settled-up (suc d) q (node_at nodes n, c) above (omega arith) ∙ ap (λ x. settled x q above) up; kept = k }
    by_depth zero q w k None e =
        record { depth = 1; place = q; way = λ above. w ((node_at nodes n, c) ∷ above) ∙ settled-unshared 0 q (node_at nodes n) c above refl e; kept = k }
    by_depth zero q w k (Some r) e =
        record { depth = 0; place = r; way = λ above. w ((node_at nodes n, c) ∷ above) ∙ settled-shared 0 q r (node_at nodes n) c above refl e; kept = sym (h n c q r e) ∙ k }

    by_share : Climbs nodes shown (child_of (node_at nodes n) c) path p → Climbs nodes shown n (c ∷ path) p
    by_share r = by_depth r.depth r.place r.way r.kept (shared_as (node_at nodes n) c r.place) refl

pub home-kept : {V : Type 0} (nodes : List Node) (shown : ℕ → ℕ → V) → Keeps nodes shown → (root : ℕ) (path : List ℕ) (p : ℕ) → shown (reached nodes root (take (home nodes root path p).depth path)) (home nodes root path p).place ≡ shown (reached nodes root path) p
home-kept nodes shown h root path p =
    let r = climbs nodes shown h root path p in
    let same = home-settled nodes root path p r.depth r.place (r.way []) in
    ap (λ (h : Home). shown (reached nodes root (take h.depth path)) h.place) (sym same) ∙ r.kept
