use Rattle.std.proofs.Common.{ℕ, refl}
use Rattle.san_check.specs.build.Cells.{values_of, all_values}
use Rattle.san_check.proofs.LoopLemmas.{added_turn}
use Rattle.san_check.proofs.build.cells.all_values.Goals as goal

pub places-preserved : goal.places-preserved
places-preserved c =
    added_turn (λ (n : ℕ) ds. all_values ds) (λ (n : ℕ) d. values_of d) (λ n. n) (λ n d ds. refl) c.args.decls.now c.places.decl-index c.decl-item.result 0 0 c.places.values.items c.put_values.new.values.items
    (all_values c.args.decls.now) c.places-test.true c.decl-item.is refl c.in_ok-put_values.ensures c.places.invariant
