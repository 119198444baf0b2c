use Rattle.std.proofs.Common.{◌≡◌, ◌-◌, take, length}
use Rattle.san_base.proofs.same.all_same.Given as goal

abbrev pub invariant-next : goal.invariant-next
invariant-next g l = take l.at l.a ≡ take l.at l.b

abbrev pub decreases-next : goal.decreases-next
decreases-next g l = length l.a - l.at
