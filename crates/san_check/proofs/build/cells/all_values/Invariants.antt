use Rattle.std.proofs.Common.{◌≡◌, ◌++◌, drop}
use Rattle.san_check.specs.build.Cells.{all_values}
use Rattle.san_check.proofs.build.cells.all_values.Given as goal

abbrev pub invariant-places : goal.invariant-places
invariant-places l = l.values.items ++ all_values (drop l.decl-index l.decls) ≡ all_values l.decls
