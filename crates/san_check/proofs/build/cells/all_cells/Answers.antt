use Rattle.std.proofs.Common.{◌≡◌, ℕ, ◌+◌, [], refl, ap, ap₂, ◌∙◌}
use Rattle.san_text.specs.declared.syntax.PlaceDecl.{PlaceDecl}
use Rattle.san_check.specs.declared.build.cells.Cells.{Cells}
use Rattle.san_check.specs.Tables.{declared}
use Rattle.san_check.specs.walk.Atomic.{cells_of}
use Rattle.san_check.specs.build.Composition.{capped}
use Rattle.san_check.specs.build.Cells.{CellTable, cells_behind, all_cells}
use Rattle.san_check.proofs.LoopLemmas.{all_turn}
use Rattle.san_check.proofs.build.cells.all_cells.Goals as goal

pub places-preserved : goal.places-preserved
places-preserved c =
    let d = c.decl-item.result in
    let made : c.declare.new.self ≡ declared c.places.cells d.name (cells_behind c.places.first d) =
    c.in_ok-declare.ensures ∙ ap (λ n. declared c.places.cells n c.cells_behind-place.result) c.as_bytes.ensures.value ∙ ap (declared c.places.cells d.name) c.cells_behind-place.ensures in
    all_turn (λ (t : CellTable × ℕ) ds. all_cells t.0 t.1 ds) (λ (t : CellTable × ℕ) (d : PlaceDecl). (declared t.0 d.name (cells_behind t.1 d), capped (t.1 + capped (cells_of d)))) (λ t d ds. refl)
    c.args.decls.now c.places.decl-index d (c.places.cells, c.places.first) (c.declare.new.self, c.behind-first.result) (all_cells [] 0 c.args.decls.now) c.places-test.true c.decl-item.is
    (ap₂ (λ a b. (a, b)) made (c.behind-first.ensures ∙ ap (λ (p : Cells). capped (p.first + p.length)) c.cells_behind-place.ensures)) c.places.invariant
