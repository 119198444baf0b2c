use Rattle.std.proofs.Common.{◌≡◌, map, take}
use Rattle.san_reward.specs.Running.{terms_in}
use Rattle.san_reward.proofs.zeros.terms_table.Given as goal

abbrev pub invariant-leaves : goal.invariant-leaves
invariant-leaves l = map (λ x. x.items) l.table.items ≡ map terms_in (take l.leaf l.flat.parts)
