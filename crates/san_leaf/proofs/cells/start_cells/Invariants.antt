use Rattle.std.proofs.Common.{◌≡◌, ◌++◌, drop, map}
use Rattle.san_net.specs.Leaf.{slot_in}
use Rattle.san_leaf.specs.inner.Cells.{starts}
use Rattle.san_leaf.proofs.cells.start_cells.Given as goal

abbrev pub invariant-slots : goal.invariant-slots
invariant-slots l = l.cells.items ++ starts (map slot_in (drop l.slot-index l.slots)) l.values ≡ starts (map slot_in l.slots) l.fn.values
