use Rattle.std.proofs.Common.{◌≡◌, List, [], ◌∷◌, refl, ap, ◌∙◌}
use Rattle.san_check.specs.inner.Walks.{seen, seen_all}
use Rattle.san_check.proofs.LoopLemmas.{all_turn, entries_turn}
use Rattle.san_check.specs.Tables.{declared}
use Rattle.san_check.specs.walk.Composition.{Models, name_code, name_of, model_entries, models_entries, with_model, all_models}
use Rattle.san_text.specs.declared.syntax.ModelDecl.{ModelDecl}
use Rattle.san_check.proofs.walk.model.walk_models.Goals as goal

pub models-preserved : goal.models-preserved
models-preserved c =
    let d = c.index-decls-n.result in
    let made : c.declare.new.self ≡ with_model c.models.models d =
    c.in_ok-declare.ensures ∙ ap (λ n. declared c.models.models n c.in_ok-known.known) (c.as_bytes.ensures.value ∙ c.name_of-in-models.ensures)
    ∙ ap (declared c.models.models (name_of d)) c.in_ok-known.ensures.known in
    record {
      entries = entries_turn (λ (t : Models) n (ds : List ModelDecl). models_entries t n ds) (λ (t : Models) n more (d : ModelDecl). name_code t n (name_of d) ∷ model_entries t d) (λ (t : Models) (d : ModelDecl). with_model t d) (λ t n d ds. refl)
          c.args.decls.now c.models.n d c.models.models c.declare.new.self c.models.walk c.walk_model.new.walk (seen_all c.args.walk.now (models_entries [] 0 c.args.decls.now))
          c.models-test.true c.index-decls-n.is
          (c.in_ok-known.ensures.entries ∙ ap (λ x. seen_all x (model_entries c.models.models d)) (c.see.ensures ∙ ap (seen c.models.walk) (c.name_code.ensures ∙ ap (name_code c.models.models c.models.n) c.name_of.ensures)))
          made c.models.invariant.entries;
      models = all_turn all_models with_model (λ t d ds. refl) c.args.decls.now c.models.n d c.models.models c.declare.new.self (all_models [] c.args.decls.now) c.models-test.true c.index-decls-n.is made c.models.invariant.models;
    }
