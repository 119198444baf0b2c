use Rattle.std.proofs.Common.{◌≡◌, suc, ◌++◌, ◌-◌, arith}
use Rattle.san_check.specs.build.Cells.{values_of}
use Rattle.san_check.proofs.LoopLemmas.{value_turn}
use Rattle.san_check.proofs.build.cells.put_values.Goals as goal

pub cells-preserved : goal.cells-preserved
cells-preserved c =
    let down : c.cells.left ≡ suc (c.cells.left - 1) = omega (arith, c.cells-test.true) in
    value_turn c.cells.left (c.cells.left - 1) c.capped-value.result c.cells.values.items c.push.new.self.items (c.args.values.now.items ++ values_of c.args.place.now) down c.in_ok-push.ensures.items c.cells.invariant
