use Rattle.std.proofs.Common.{ap, ap₂, ◌∙◌}
use Rattle.san_check.specs.build.Composition.{number, child_of}
use Rattle.san_check.proofs.LoopLemmas.{map_turn}
use Rattle.san_check.proofs.build.composition.named_children.Goals as goal

pub children-preserved : goal.children-preserved
children-preserved c =
    map_turn (child_of c.args.models.now) c.args.children.now c.children.child-index c.child-item.result c.children.found.items c.push.new.self.items (c.in_ok-name.name, c.number.result) c.children-test.true c.child-item.is c.in_ok-push.ensures.items (ap₂ (λ a b. (a, b)) c.in_ok-name.ensures (c.number.ensures ∙ ap (number c.args.models.now) c.as_bytes.ensures.value)) c.children.invariant
