use Rattle.std.proofs.Common.{◌≡◌, ◌++◌, drop, map}
use Rattle.san_net.specs.Leaf.{slot_in}
use Rattle.san_leaf.specs.inner.Cells.{owned}
use Rattle.san_leaf.proofs.cells.owned.Given as goal

abbrev pub invariant-slots : goal.invariant-slots
invariant-slots l = l.values.items ++ owned (map slot_in (drop l.slot-index l.slots)) l.cells ≡ owned (map slot_in l.slots) l.fn.cells
