use Rattle.std.proofs.Common.{◌≡◌, ◌-◌, take, length}
use Rattle.san_leaf.proofs.same.same_timers.Given as goal

abbrev pub invariant-next : goal.invariant-next
invariant-next l = take l.at l.a ≡ take l.at l.b

abbrev pub decreases-next : goal.decreases-next
decreases-next l = length l.a - l.at
