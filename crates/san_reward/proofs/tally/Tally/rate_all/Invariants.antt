use Rattle.std.proofs.Common.{◌≡◌}
use Rattle.san_reward.specs.Running.{rates_in}
use Rattle.san_reward.proofs.RatesSet.{leaves_so_far}
use Rattle.san_reward.proofs.tally.Tally.rate_all.Given as goal

abbrev pub invariant-leaves : goal.invariant-leaves
invariant-leaves l = l.self ≡ leaves_so_far l.fn.self (rates_in l.flat l.marking) l.leaf
