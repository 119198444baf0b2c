use Rattle.std.proofs.Common.{refl, ap₂, ◌∙◌}
use Rattle.san_check.proofs.LoopLemmas.{all_turn}
use Rattle.san_check.specs.Tables.{paired, all_paired}
use Rattle.san_check.proofs.walk.composition.take_parts.Goals as goal

pub parts-preserved : goal.parts-preserved
parts-preserved c =
    all_turn all_paired paired (λ t d ds. refl) c.args.parts.now c.parts.part-index c.part-item.result c.parts.taken c.add.new.self (all_paired c.args.taken.now c.args.parts.now) c.parts-test.true c.part-item.is
    (c.in_ok-add.ensures ∙ ap₂ (λ a b. paired c.parts.taken (a, b)) c.as_bytes.ensures.value c.as_bytes-in-parts.ensures.value) c.parts.invariant
