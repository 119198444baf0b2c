use Rattle.san_check.specs.build.Composition.{part_numbers}
use Rattle.san_check.proofs.LoopLemmas.{map_turn}
use Rattle.san_check.proofs.build.composition.parts_of.Goals as goal

pub parts-preserved : goal.parts-preserved
parts-preserved c =
    map_turn (part_numbers c.args.children.now) c.args.parts.now c.parts.part-index c.part-item.result c.parts.found.items c.push.new.self.items c.part_numbers.result c.parts-test.true c.part-item.is c.in_ok-push.ensures.items (c.part_numbers.ensures) c.parts.invariant
