use Rattle.std.proofs.Common.{◌≡◌, ◌++◌, drop}
use Rattle.san_check.specs.build.Cells.{all_elements}
use Rattle.san_check.proofs.build.element.all_elements.Given as goal

abbrev pub invariant-places : goal.invariant-places
invariant-places l = l.cells.items ++ all_elements l.place (drop l.decl-index l.decls) ≡ all_elements 0 l.decls
