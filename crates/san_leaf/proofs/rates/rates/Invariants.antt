use Rattle.std.proofs.Common.{◌≡◌, ◌++◌, drop, map}
use Rattle.san_base.specs.Rated.{term_value}
use Rattle.san_net.specs.Leaf.{rate_in}
use Rattle.san_leaf.proofs.rates.rates.Given as goal

abbrev pub invariant-terms : goal.invariant-terms
invariant-terms l = (map term_value l.list.items ++ map (rate_in l.fn.cells) (drop l.term-index l.terms) ≡ map (rate_in l.fn.cells) l.terms) × (l.cells ≡ l.fn.cells)
