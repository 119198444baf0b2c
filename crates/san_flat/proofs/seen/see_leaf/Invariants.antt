use Rattle.std.proofs.Common.{◌++◌, ℕ, List, map, take, true}
use Rattle.san_flat.specs.Homes.{CellHome, home_of}
use Rattle.san_flat.specs.inner.Sightings.{Sees}
use Rattle.san_flat.proofs.seen.see_leaf.Given as goal

abbrev pub invariant-cells : goal.invariant-cells
invariant-cells l =
    (homes : List CellHome) (initial : List ℕ) → Sees true homes initial l.fn.seen → Sees true (homes ++ map (home_of l.model.tree.nodes l.model.tree.root l.leaf.path) (take l.at l.cells)) (initial ++ take l.at l.values) l.seen
