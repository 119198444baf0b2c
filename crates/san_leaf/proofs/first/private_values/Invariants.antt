use Rattle.std.proofs.Common.{◌≡◌, ◌++◌, drop, map}
use Rattle.san_net.specs.Leaf.{slot_in}
use Rattle.san_law.specs.Piece.{own}
use Rattle.san_leaf.proofs.first.private_values.Given as goal

abbrev pub invariant-slots : goal.invariant-slots
invariant-slots l = l.list.items ++ own (map slot_in (drop l.slot-index l.slots)) l.values ≡ own (map slot_in l.slots) l.fn.values
