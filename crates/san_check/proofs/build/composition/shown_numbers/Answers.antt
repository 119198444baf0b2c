use Rattle.std.proofs.Common.{ap, ◌∙◌}
use Rattle.san_check.specs.build.Composition.{number}
use Rattle.san_check.proofs.LoopLemmas.{map_turn}
use Rattle.san_check.proofs.build.composition.shown_numbers.Goals as goal

pub names-preserved : goal.names-preserved
names-preserved c =
    map_turn (number c.args.places.now) c.args.names.now c.names.name-index c.name-item.result c.names.found.items c.push.new.self.items c.number.result c.names-test.true c.name-item.is c.in_ok-push.ensures.items (c.number.ensures ∙ ap (number c.args.places.now) c.as_bytes.ensures.value) c.names.invariant
