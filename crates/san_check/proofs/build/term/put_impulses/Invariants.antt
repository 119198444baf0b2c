use Rattle.std.proofs.Common.{◌≡◌, ◌++◌, drop}
use Rattle.san_check.specs.build.Term.{impulses_in}
use Rattle.san_check.proofs.build.term.put_impulses.Given as goal

abbrev pub invariant-terms : goal.invariant-terms
invariant-terms l = l.impulses.items ++ impulses_in l.cells l.acts l.reward (drop l.term-index l.terms) ≡ l.fn.impulses.items ++ impulses_in l.cells l.acts l.reward l.terms
