use Rattle.std.proofs.Common.{◌≡◌, take}
use Rattle.san_reward.proofs.copy.copy_list.Given as goal

abbrev pub invariant-loop-item : goal.invariant-loop-item
invariant-loop-item g l = l.list.items ≡ take l.item-index l.items
