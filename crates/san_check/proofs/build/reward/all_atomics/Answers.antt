use Rattle.std.proofs.Common.{[], refl}
use Rattle.san_check.specs.build.Reward.{with_atomic, all_atomics}
use Rattle.san_check.proofs.LoopLemmas.{all_turn}
use Rattle.san_check.proofs.build.reward.all_atomics.Goals as goal

pub models-preserved : goal.models-preserved
models-preserved c =
    all_turn all_atomics with_atomic (λ t d ds. refl) c.args.decls.now c.models.decl-index c.decl-item.result c.models.atomics c.add_atomic.new.atomics (all_atomics [] c.args.decls.now) c.models-test.true c.decl-item.is c.in_ok-add_atomic.ensures c.models.invariant
