use Rattle.std.proofs.Common.{◌≡◌, ◌++◌, drop}
use Rattle.san_check.specs.build.Term.{rates_in}
use Rattle.san_check.proofs.build.term.put_rates.Given as goal

abbrev pub invariant-terms : goal.invariant-terms
invariant-terms l = l.rates.items ++ rates_in l.cells l.reward (drop l.term-index l.terms) ≡ l.fn.rates.items ++ rates_in l.cells l.reward l.terms
