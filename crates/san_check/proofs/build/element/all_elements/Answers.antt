use Rattle.std.proofs.Common.{ℕ, ◌+◌, refl}
use Rattle.san_text.specs.declared.syntax.PlaceDecl.{PlaceDecl}
use Rattle.san_check.specs.walk.Atomic.{cells_of}
use Rattle.san_check.specs.build.Composition.{capped}
use Rattle.san_check.specs.build.Cells.{elements, all_elements}
use Rattle.san_check.proofs.LoopLemmas.{added_turn}
use Rattle.san_check.proofs.build.element.all_elements.Goals as goal

pub places-preserved : goal.places-preserved
places-preserved c =
    added_turn all_elements (λ (n : ℕ) (d : PlaceDecl). elements n 0 (capped (cells_of d))) (λ n. capped (n + 1)) (λ n d ds. refl) c.args.decls.now c.places.decl-index c.decl-item.result c.places.place c.saturating_add-place.result
    c.places.cells.items c.put_elements.new.cells.items (all_elements 0 c.args.decls.now) c.places-test.true c.decl-item.is c.saturating_add-place.ensures c.in_ok-put_elements.ensures c.places.invariant
