use Rattle.std.proofs.Common.{◌≡◌, ◌++◌}
use Rattle.san_check.specs.walk.Atomic.{cells_of}
use Rattle.san_check.specs.build.Composition.{capped}
use Rattle.san_check.specs.build.Cells.{elements}
use Rattle.san_check.proofs.build.element.put_elements.Given as goal

abbrev pub decreases-cells : goal.decreases-cells
decreases-cells l = l.left

abbrev pub invariant-cells : goal.invariant-cells
invariant-cells l = l.cells.items ++ elements l.place l.element l.left ≡ l.fn.cells.items ++ elements l.place 0 (capped (cells_of l.decl))
