use Rattle.std.proofs.Common.{◌≡◌, map, take}
use Rattle.san_reward.proofs.same.same_lists.Given as goal

abbrev pub invariant-loop-at : goal.invariant-loop-at
invariant-loop-at g l = map (λ v. v.items) (take l.at l.a) ≡ map (λ v. v.items) (take l.at l.b)
