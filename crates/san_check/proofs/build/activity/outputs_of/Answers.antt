use Rattle.san_check.specs.build.Activity.{output_of}
use Rattle.san_check.proofs.LoopLemmas.{map_turn}
use Rattle.san_check.proofs.build.activity.outputs_of.Goals as goal

pub outputs-preserved : goal.outputs-preserved
outputs-preserved c =
    map_turn (output_of c.args.cells.now) c.args.outputs.now c.outputs.output-index c.output-item.result c.outputs.made.items c.push.new.self.items c.in_ok-next.next c.outputs-test.true c.output-item.is c.in_ok-push.ensures.items c.in_ok-next.ensures c.outputs.invariant
