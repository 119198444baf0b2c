use Rattle.std.proofs.Common.{drop, map}
use Rattle.san_net.specs.Leaf.{slot_in}
use Rattle.san_leaf.specs.inner.Cells.{owned}
use Rattle.san_leaf.proofs.CellLemmas.{all_owned}
use Rattle.san_leaf.proofs.cells.owned.Goals as goal

pub returns-in_default : goal.returns-in_default
returns-in_default c = all_owned c.slots.values.items (map slot_in (drop c.slots.slot-index c.args.slots.now)) c.slots.cells.now (owned (map slot_in c.args.slots.now) c.args.cells.now) c.in_default.len_below c.slots.invariant
