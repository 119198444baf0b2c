use Rattle.std.proofs.Common.{◌≡◌, map}
use Rattle.san_base.specs.Rated.{term_value}
use Rattle.san_reward.proofs.RatesSet.{so_far}
use Rattle.san_reward.proofs.tally.Tally.rate_leaf.Given as goal

abbrev pub invariant-terms : goal.invariant-terms
invariant-terms l = l.self ≡ so_far l.fn.self l.leaf.0 (map term_value l.rates) l.at
