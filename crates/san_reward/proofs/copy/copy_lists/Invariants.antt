use Rattle.std.proofs.Common.{◌≡◌, map, take}
use Rattle.san_reward.proofs.copy.copy_lists.Given as goal

abbrev pub invariant-loop-list : goal.invariant-loop-list
invariant-loop-list g l = map (λ x. x.items) l.table.items ≡ map (λ x. x.items) (take l.list-index l.lists)
