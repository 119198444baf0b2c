use Rattle.std.proofs.Common.{ℕ, refl}
use Rattle.san_check.specs.build.Cells.{elements_in, elements_from}
use Rattle.san_check.proofs.LoopLemmas.{added_turn}
use Rattle.san_check.proofs.build.element.elements_from.Goals as goal

pub models-preserved : goal.models-preserved
models-preserved c =
    added_turn (λ (n : ℕ) ds. elements_from ds) (λ (n : ℕ) d. elements_in d) (λ n. n) (λ n d ds. refl) c.args.decls.now c.models.decl-index c.decl-item.result 0 0 c.models.cells.items c.put_atomic.new.cells.items
    (elements_from c.args.decls.now) c.models-test.true c.decl-item.is refl c.in_ok-put_atomic.ensures c.models.invariant
