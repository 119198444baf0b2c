use Rattle.std.proofs.Common.{◌≡◌, ◌++◌, drop, map}
use Rattle.san_net.specs.Leaf.{slot_in}
use Rattle.san_leaf.specs.States.{pair_in}
use Rattle.san_leaf.specs.inner.Gathers.{joined}
use Rattle.san_leaf.proofs.gather.join.Given as goal

abbrev pub invariant-slots : goal.invariant-slots
invariant-slots l = l.values.items ++ joined (map slot_in (drop l.slot-index l.slots)) l.own (map pair_in l.log) ≡ joined (map slot_in l.slots) l.fn.own (map pair_in l.fn.log)
