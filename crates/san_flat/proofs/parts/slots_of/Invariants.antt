use Rattle.std.proofs.Common.{◌≡◌, List, map, take}
use Rattle.san_flat.specs.Homes.{CellHome, home_of, homes_in}
use Rattle.san_flat.specs.Networks.{slot_of}
use Rattle.san_flat.specs.inner.Sightings.{AreAmong, AreNumbers}
use Rattle.san_flat.proofs.parts.slots_of.Given as goal

abbrev pub invariant-cells : goal.invariant-cells
invariant-cells l =
    (homes : List CellHome) → AreNumbers homes l.numbers → AreAmong homes (homes_in l.model.tree.nodes l.model.tree.root l.model.cells l.leaf) → l.slots.items ≡ map (slot_of homes) (map (home_of l.model.tree.nodes l.model.tree.root l.leaf.path) (take l.cell-index l.cells))
