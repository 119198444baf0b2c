use Rattle.std.proofs.Common.{ℕ, refl}
use Rattle.san_check.specs.build.Atomic.{atomic_in, atomics_from}
use Rattle.san_check.proofs.LoopLemmas.{added_turn}
use Rattle.san_check.proofs.build.atomic.atomics_from.Goals as goal

pub models-preserved : goal.models-preserved
models-preserved c =
    added_turn (λ (n : ℕ) ds. atomics_from c.args.rewards.now ds) (λ (n : ℕ) d. atomic_in c.args.rewards.now d) (λ n. n) (λ n d ds. refl) c.args.decls.now c.models.decl-index c.decl-item.result 0 0 c.models.atomics.items c.put_atomic.new.atomics.items
    (atomics_from c.args.rewards.now c.args.decls.now) c.models-test.true c.decl-item.is refl c.in_ok-put_atomic.ensures c.models.invariant
