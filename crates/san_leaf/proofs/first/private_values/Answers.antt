use Rattle.std.proofs.Common.{drop, map}
use Rattle.san_law.specs.Piece.{own}
use Rattle.san_net.specs.Leaf.{slot_in}
use Rattle.san_leaf.proofs.FirstLemmas.{all_own}
use Rattle.san_leaf.proofs.first.private_values.Goals as goal

pub returns-in_default : goal.returns-in_default
returns-in_default c = all_own c.slots.list.items (map slot_in (drop c.slots.slot-index c.args.slots.now)) c.slots.values.now (own (map slot_in c.args.slots.now) c.args.values.now) c.in_default.len_below c.slots.invariant
