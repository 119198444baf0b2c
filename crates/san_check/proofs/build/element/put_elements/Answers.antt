use Rattle.std.proofs.Common.{◌≡◌, ℕ, suc, ◌+◌, List, [], ◌∷◌, ◌++◌, ◌-◌, append_assoc, sym, ap, ◌∙◌, arith}
use Rattle.san_check.specs.walk.Atomic.{cells_of}
use Rattle.san_check.specs.build.Composition.{capped}
use Rattle.san_check.specs.build.Cells.{elements}
use Rattle.san_check.proofs.build.element.put_elements.Goals as goal

-- one more element of so many
turn : (place element element1 left left1 : ℕ) (v v1 total : List (ℕ × ℕ)) → left ≡ suc left1 → element1 ≡ capped (element + 1) → v1 ≡ v ++ (place, element) ∷ [] → v ++ elements place element left ≡ total → v1 ++ elements place element1 left1 ≡ total
turn place element element1 left left1 v v1 total down up made so_far =
    ap (λ (e : ℕ). v1 ++ elements place e left1) up ∙ ap (λ u. u ++ elements place (capped (element + 1)) left1) made ∙ append_assoc v ((place, element) ∷ []) (elements place (capped (element + 1)) left1)
    ∙ ap (λ (n : ℕ). v ++ elements place element n) (sym down) ∙ so_far

pub cells-preserved : goal.cells-preserved
cells-preserved c =
    let down : c.cells.left ≡ suc (c.cells.left - 1) = omega (arith, c.cells-test.true) in
    turn c.args.place c.cells.element c.saturating_add-element.result c.cells.left (c.cells.left - 1) c.cells.cells.items c.push.new.self.items (c.args.cells.now.items ++ elements c.args.place 0 (capped (cells_of c.args.decl.now))) down
    c.saturating_add-element.ensures c.in_ok-push.ensures.items c.cells.invariant
