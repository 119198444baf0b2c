use Rattle.std.proofs.Common.{◌≡◌, [], drop}
use Rattle.san_check.specs.inner.Walks.{seen_all}
use Rattle.san_check.specs.walk.Composition.{models_entries, all_models}
use Rattle.san_check.proofs.walk.model.walk_models.Given as goal

abbrev pub invariant-models : goal.invariant-models
invariant-models l = record {
  entries : seen_all l.walk (models_entries l.models l.n (drop l.n l.decls)) ≡ seen_all l.fn.walk (models_entries [] 0 l.decls);
  models : all_models l.models (drop l.n l.decls) ≡ all_models [] l.decls;
}
