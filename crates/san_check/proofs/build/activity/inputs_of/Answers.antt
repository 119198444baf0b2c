use Rattle.san_check.specs.build.Activity.{input_of}
use Rattle.san_check.proofs.LoopLemmas.{map_turn}
use Rattle.san_check.proofs.build.activity.inputs_of.Goals as goal

pub inputs-preserved : goal.inputs-preserved
inputs-preserved c =
    map_turn (input_of c.args.cells.now) c.args.inputs.now c.inputs.input-index c.input-item.result c.inputs.made.items c.push.new.self.items c.in_ok-next.next c.inputs-test.true c.input-item.is c.in_ok-push.ensures.items c.in_ok-next.ensures c.inputs.invariant
