use Rattle.std.proofs.Common.{◌≡◌, [], drop}
use Rattle.san_check.specs.build.Cells.{all_cells}
use Rattle.san_check.proofs.build.cells.all_cells.Given as goal

abbrev pub invariant-places : goal.invariant-places
invariant-places l = all_cells l.cells l.first (drop l.decl-index l.decls) ≡ all_cells [] 0 l.decls
