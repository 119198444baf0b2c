use Rattle.std.proofs.Common.{◌≡◌, ◌++◌, replicate}
use Rattle.san_check.specs.build.Cells.{values_of}
use Rattle.san_check.proofs.build.cells.put_values.Given as goal

abbrev pub decreases-cells : goal.decreases-cells
decreases-cells l = l.left

abbrev pub invariant-cells : goal.invariant-cells
invariant-cells l = l.values.items ++ replicate l.left l.value ≡ l.fn.values.items ++ values_of l.place
