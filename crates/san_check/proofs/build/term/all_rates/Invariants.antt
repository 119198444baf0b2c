use Rattle.std.proofs.Common.{◌≡◌, ◌++◌, drop}
use Rattle.san_check.specs.build.Term.{all_rates}
use Rattle.san_check.proofs.build.term.all_rates.Given as goal

abbrev pub invariant-rewards : goal.invariant-rewards
invariant-rewards l = l.rates.items ++ all_rates l.cells l.name l.number (drop l.reward-index l.rewards) ≡ all_rates l.cells l.name 0 l.rewards
