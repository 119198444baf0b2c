use Rattle.std.proofs.Common.{◌≡◌, ◌++◌, drop}
use Rattle.san_check.specs.build.Cells.{elements_from}
use Rattle.san_check.proofs.build.element.elements_from.Given as goal

abbrev pub invariant-models : goal.invariant-models
invariant-models l = l.cells.items ++ elements_from (drop l.decl-index l.decls) ≡ elements_from l.decls
