use Rattle.std.proofs.Common.{[], refl, ap, ◌∙◌}
use Rattle.san_text.specs.declared.syntax.ActDecl.{ActDecl}
use Rattle.san_check.specs.Tables.{declared}
use Rattle.san_check.specs.walk.Activity.{ActNames}
use Rattle.san_check.specs.walk.Atomic.{all_acts}
use Rattle.san_check.proofs.LoopLemmas.{all_turn}
use Rattle.san_check.proofs.build.atomic.named_acts.Goals as goal

pub acts-preserved : goal.acts-preserved
acts-preserved c =
    all_turn all_acts (λ (t : ActNames) (d : ActDecl). declared t d.name tt) (λ t d ds. refl) c.args.decls.now c.acts.decl-index c.decl-item.result c.acts.acts c.declare.new.self (all_acts [] c.args.decls.now) c.acts-test.true c.decl-item.is
    (c.in_ok-declare.ensures ∙ ap (λ n. declared c.acts.acts n tt) c.as_bytes.ensures.value) c.acts.invariant
