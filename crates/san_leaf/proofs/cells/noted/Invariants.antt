use Rattle.std.proofs.Common.{◌≡◌, ◌++◌, drop, map}
use Rattle.san_net.specs.Leaf.{slot_in}
use Rattle.san_leaf.specs.inner.Cells.{noted}
use Rattle.san_leaf.specs.States.{pair_in}
use Rattle.san_leaf.proofs.cells.noted.Given as goal

abbrev pub invariant-slots : goal.invariant-slots
invariant-slots l = map pair_in l.recorded.items ++ noted (map slot_in (drop l.slot-index l.slots)) l.cells ≡ noted (map slot_in l.slots) l.fn.cells
