use Rattle.std.proofs.Common.{◌≡◌, map, take}
use Rattle.san_reward.specs.Running.{no_rates}
use Rattle.san_reward.proofs.zeros.rates_table.Given as goal

abbrev pub invariant-leaves : goal.invariant-leaves
invariant-leaves l = map (λ x. x.items) l.table.items ≡ map no_rates (take l.leaf l.flat.parts)
