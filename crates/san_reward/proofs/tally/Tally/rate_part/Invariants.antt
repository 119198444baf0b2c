use Rattle.std.proofs.Common.{◌≡◌}
use Rattle.san_reward.specs.Running.{rates_of}
use Rattle.san_reward.proofs.RatesSet.{so_far}
use Rattle.san_reward.proofs.tally.Tally.rate_part.Given as goal

abbrev pub invariant-terms : goal.invariant-terms
invariant-terms l = l.self ≡ so_far l.fn.self l.leaf.0 (rates_of l.marking l.part) l.at
