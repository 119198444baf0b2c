use Rattle.std.proofs.Common.{◌≡◌, drop}
use Rattle.san_plain.specs.inner.Rated.{rate_cells}
use Rattle.san_plain.proofs.rated.terms_name.Given as goal

abbrev pub invariant-loop-term : goal.invariant-loop-term
invariant-loop-term l = rate_cells l.terms l.cell ≡ rate_cells (drop l.term-index l.terms) l.cell
