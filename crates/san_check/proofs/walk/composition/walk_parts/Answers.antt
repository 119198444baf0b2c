use Rattle.std.proofs.Common.{ℕ, List, [], ◌∷◌, refl, ap, ap₂, ◌∙◌}
use Rattle.san_check.specs.inner.Walks.{seen, seen_all}
use Rattle.san_check.proofs.LoopLemmas.{entries_turn}
use Rattle.san_check.specs.Tables.{declared}
use Rattle.san_check.specs.walk.Activity.{ActNames}
use Rattle.san_check.specs.walk.Composition.{part_code, shared_code, parts_entries}
use Rattle.san_check.proofs.walk.composition.walk_parts.Goals as goal

pub parts-preserved : goal.parts-preserved
parts-preserved c =
    let p = c.part-item.result in
    let children = c.args.children.now in
    let taken = c.args.taken.now in
    let first = c.first_place-first.result in
    entries_turn (λ (t : ActNames) n (ps : List (List ℕ × List ℕ)). parts_entries children taken first t ps) (λ (t : ActNames) n more (p : List ℕ × List ℕ). part_code children t p.0 ∷ (shared_code children taken first p ∷ [])) (λ (t : ActNames) (p : List ℕ × List ℕ). declared t p.0 tt) (λ t n p ps. refl)
    c.args.parts.now c.parts.part-index p c.parts.earlier c.declare.new.self c.parts.walk c.see-in-parts.new.self (seen_all c.args.walk.now (parts_entries children taken first [] c.args.parts.now))
    c.parts-test.true c.part-item.is
    (c.see-in-parts.ensures ∙ ap₂ seen (c.see.ensures ∙ ap (seen c.parts.walk) c.part_code.ensures) c.shared_code.ensures)
    (c.in_ok-declare.ensures ∙ ap (λ n. declared c.parts.earlier n tt) c.as_bytes.ensures.value) c.parts.invariant
