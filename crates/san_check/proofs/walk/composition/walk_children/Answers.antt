use Rattle.std.proofs.Common.{◌≡◌, List, [], ◌∷◌, refl, ap, ap₂, ◌∙◌}
use Rattle.san_check.specs.inner.Walks.{seen, seen_all}
use Rattle.san_check.proofs.LoopLemmas.{all_turn, entries_turn}
use Rattle.san_check.specs.Tables.{declared}
use Rattle.san_check.specs.walk.Composition.{Children, child_code, model_code, children_entries, with_child, all_children}
use Rattle.san_text.specs.declared.syntax.ChildDecl.{ChildDecl}
use Rattle.san_check.specs.declared.known.Known.{Known}
use Rattle.san_check.proofs.walk.composition.walk_children.Goals as goal

pub children-preserved : goal.children-preserved
children-preserved c =
    let d = c.index-decls-n.result in
    let models = c.args.models.now in
    let made : c.declare.new.self ≡ with_child models c.children.children d =
    c.in_ok-declare.ensures ∙ ap (λ n. declared c.children.children n c.known_as-known.result.now.places) c.as_bytes.ensures.value
    ∙ ap (λ (k : Known). declared c.children.children d.name k.places) c.known_as-known.ensures in
    record {
      entries = entries_turn (λ (t : Children) n (ds : List ChildDecl). children_entries models t n ds) (λ (t : Children) n more (d : ChildDecl). child_code t n d.name ∷ (model_code models d.of ∷ [])) (λ (t : Children) (d : ChildDecl). with_child models t d) (λ t n d ds. refl)
          c.args.decls.now c.children.n d c.children.children c.declare.new.self c.children.walk c.see-in-children.new.self (seen_all c.args.walk.now (children_entries models [] 0 c.args.decls.now))
          c.children-test.true c.index-decls-n.is
          (c.see-in-children.ensures ∙ ap₂ seen (c.see.ensures ∙ ap (seen c.children.walk) c.child_code.ensures) c.model_code.ensures)
          made c.children.invariant.entries;
      children = all_turn (all_children models) (with_child models) (λ t d ds. refl) c.args.decls.now c.children.n d c.children.children c.declare.new.self (all_children models [] c.args.decls.now) c.children-test.true c.index-decls-n.is made c.children.invariant.children;
    }
