use Rattle.std.proofs.Common.{ap₂, ◌∙◌}
use Rattle.san_check.specs.build.Activity.{act_of}
use Rattle.san_check.proofs.LoopLemmas.{map_turn}
use Rattle.san_check.proofs.build.activity.acts_of.Goals as goal

pub acts-preserved : goal.acts-preserved
acts-preserved c =
    map_turn (act_of c.args.cells.now) c.args.acts.now c.acts.act-index c.act-item.result c.acts.made.items c.push.new.self.items (c.in_ok-name.name, c.in_ok-activity.activity) c.acts-test.true c.act-item.is c.in_ok-push.ensures.items
    (ap₂ (λ a b. (a, b)) (c.in_ok-name.ensures ∙ c.as_bytes.ensures.value) c.in_ok-activity.ensures) c.acts.invariant
