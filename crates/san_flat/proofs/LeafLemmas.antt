-- A leaf of a model: where it stands in the tree, what it is, the homes of its cells.
use Rattle.san_base.proofs.Bools.{or_right}
use Rattle.san_base.proofs.NumberTests.{some_same}
use Rattle.std.proofs.Common.{◌≡◌, ℕ, zero, suc, ◌<◌, ◌≤◌, true, ◌||◌, List, [], ◌∷◌, length, ap, sym, ◌∙◌, subst, arith, Some}
use Rattle.std.specs.Prelude.{slice_get}
use Rattle.std.specs.List.{All, list_any}
use Rattle.std.proofs.lemmas.List.{length-map, length-take-le}
use Rattle.std.proofs.lemmas.List.Folds.{list_any-append}
use Rattle.std.proofs.lemmas.Option.{get_or_from_slice_get, slice_get-get_or, slice_get_within}
use Rattle.san_check.specs.declared.model.Model.{Model}
use Rattle.san_flat.proofs.HomeLemmas.{home_near, same-equiv}
use Rattle.san_flat.proofs.ListLemmas.{apart-map}
use Rattle.san_flat.proofs.TreePaths.{IsPath, paths-are}
use Rattle.san_check.specs.Composed.{IsComposed}
use Rattle.san_flat.specs.Homes.{CellHome, cells_at, home_of, homes_in, rows_of, same}
use Rattle.san_flat.specs.Networks.{atomic_at, leaf_count, no_atomic, values_in}
use Rattle.san_flat.specs.inner.Models.{leaves_of}
use Rattle.san_net.specs.Apart.{AreApart}
use Rattle.san_net.specs.Numbering.{all_of}
use Rattle.san_tree.proofs.ApartLemmas.{home-apart}
use Rattle.san_tree.proofs.ReachLemmas.{paths-lead}
use Rattle.san_tree.specs.Places.{child_of, home, node_at, reached}
use Rattle.san_tree.specs.declared.home.Home.{Home}
use Rattle.san_tree.specs.declared.instance.Instance.{Instance}
use Rattle.san_tree.specs.declared.node.Node.{Node}
use Rattle.san_tree.specs.declared.node.Node.TheVariants.{Leaf}

abbrev pub Composes : Model → Type 0
Composes m = IsComposed m.system m.atomics m.tree.nodes m.rewards m.cells

abbrev pub node_of : Model → Instance → ℕ
node_of m i = reached m.tree.nodes m.tree.root i.path

pub record IsPlaced (m : Model) (i : Instance) : Type 0 where
  pub path : IsPath m.tree.nodes m.tree.root i.path
  pub within : node_of m i < length m.tree.nodes
  pub leads : node_at m.tree.nodes (node_of m i) ≡ Leaf i.atomic
  pub atomic : slice_get m.atomics i.atomic ≡ Some (atomic_at m.atomics i.atomic)
  pub cells : slice_get m.cells i.atomic ≡ Some (cells_at m.cells i.atomic)

path-within : (nodes : List Node) (n : ℕ) (path : List ℕ) → IsPath nodes n path → reached nodes n path < length nodes
path-within nodes n [] h = h.0
path-within nodes n (c ∷ path) h = path-within nodes (child_of (node_at nodes n) c) path h.1

-- what holds of all holds of one
pub all-at : {X : Type 0} (P : X → Type 0) (xs : List X) → All P xs → (n : ℕ) (x : X) → slice_get xs n ≡ Some x → P x
all-at P xs h n x at = subst P (get_or_from_slice_get xs n x x at) (h n x (slice_get_within xs n x at))

abbrev end_with : ℕ → ℕ → Home
end_with depth place = record { depth = depth; place = place }

same-end : (a b : Home) → a.depth ≡ b.depth → a.place ≡ b.place → a ≡ b
same-end a b d p = ap (λ k. end_with k a.place) d ∙ ap (λ k. end_with b.depth k) p

module _ (m : Model) (composed : Composes m) where
  pub placed : leaf_count m ≤ 4096 → (n : ℕ) (i : Instance) → slice_get (leaves_of m) n ≡ Some i → IsPlaced m i
  placed few n i at =
      let path = all-at (λ k. IsPath m.tree.nodes m.tree.root k.path) (leaves_of m) (paths-are m.tree.nodes m.tree.root few).each n i at in
      let leads = all-at (λ k. node_at m.tree.nodes (node_of m k) ≡ Leaf k.atomic) (leaves_of m) (paths-lead m.tree.nodes m.tree.root) n i at in
      let within = path-within m.tree.nodes m.tree.root i.path path in
      let there = composed.leaves (node_of m i) i.atomic within leads in
      record {
        path = path;
        within = within;
        leads = leads;
        atomic = slice_get-get_or m.atomics i.atomic no_atomic there;
        cells = slice_get-get_or m.cells i.atomic [] (omega (arith, there, composed.celled));
      }

  pub row-long : (i : Instance) → IsPlaced m i → length (homes_in m.tree.nodes m.tree.root m.cells i) ≡ length (values_in m.atomics i)
  row-long i p = length-map (cells_at m.cells i.atomic) (home_of m.tree.nodes m.tree.root i.path) ∙ (composed.rows i.atomic (atomic_at m.atomics i.atomic) (cells_at m.cells i.atomic) p.atomic p.cells).0

  -- two cells of a leaf have two homes
  homes-tell : (path : List ℕ) (a b : ℕ × ℕ) → home_of m.tree.nodes m.tree.root path a ≡ home_of m.tree.nodes m.tree.root path b → a ≡ b
  homes-tell path a b e =
      let one = home m.tree.nodes m.tree.root path a.0 in
      let two = home m.tree.nodes m.tree.root path b.0 in
      let long = ap (λ h. length h.path) e in
      let depth : one.depth ≡ two.depth = sym (length-take-le one.depth path (home_near m.tree.nodes m.tree.root path a.0)) ∙ long ∙ length-take-le two.depth path (home_near m.tree.nodes m.tree.root path b.0) in
      let same : one ≡ two = same-end one two depth (ap (λ h. h.place) e) in
      ap (λ p. (p, a.1)) (home-apart m.tree.nodes composed.apart m.tree.root path a.0 b.0 same) ∙ ap (λ k. (b.0, k)) (ap (λ h. h.element) e)

  pub row-apart : (i : Instance) → IsPlaced m i → AreApart (homes_in m.tree.nodes m.tree.root m.cells i)
  row-apart i p =
      apart-map (home_of m.tree.nodes m.tree.root i.path) (cells_at m.cells i.atomic) (composed.rows i.atomic (atomic_at m.atomics i.atomic) (cells_at m.cells i.atomic) p.atomic p.cells).1 (λ _ _ a b _ _ e. homes-tell i.path a b e)

found-at : (row : List CellHome) (j : ℕ) (h : CellHome) → slice_get row j ≡ Some h → list_any (same h) row ≡ true
found-at [] j h at = absurd cc
found-at (x ∷ row) zero h at = ap (λ b. b || list_any (same h) row) (ap (same h) (some_same x h at) ∙ same-equiv.refl h)
found-at (x ∷ row) (suc j) h at = ap (λ b. same h x || b) (found-at row j h at) ∙ or_right (same h x)

-- a leaf's homes are among all homes
pub home-found : (nodes : List Node) (root : ℕ) (cells : List (List (ℕ × ℕ))) (leaves : List Instance) (n j : ℕ) (i : Instance) (h : CellHome) → slice_get leaves n ≡ Some i → slice_get (homes_in nodes root cells i) j ≡ Some h → list_any (same h) (all_of (rows_of nodes root cells leaves)) ≡ true
home-found nodes root cells [] n j i h at here = absurd cc
home-found nodes root cells (k ∷ leaves) zero j i h at here =
    let row = homes_in nodes root cells k in
    let there : list_any (same h) row ≡ true = found-at row j h (ap (λ x. slice_get (homes_in nodes root cells x) j) (some_same k i at) ∙ here) in
    list_any-append (same h) row (all_of (rows_of nodes root cells leaves)) ∙ ap (λ b. b || list_any (same h) (all_of (rows_of nodes root cells leaves))) there
home-found nodes root cells (k ∷ leaves) (suc n) j i h at here =
    let row = homes_in nodes root cells k in
    list_any-append (same h) row (all_of (rows_of nodes root cells leaves)) ∙ ap (λ b. list_any (same h) row || b) (home-found nodes root cells leaves n j i h at here) ∙ or_right (list_any (same h) row)
