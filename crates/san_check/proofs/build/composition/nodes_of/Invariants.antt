use Rattle.std.proofs.Common.{◌≡◌, ◌++◌, drop}
use Rattle.san_check.specs.build.Composition.{nodes_from}
use Rattle.san_check.proofs.build.composition.nodes_of.Given as goal

abbrev pub invariant-models : goal.invariant-models
invariant-models l = l.found.items ++ nodes_from l.models l.atomics (drop l.decl-index l.decls) ≡ nodes_from l.models 0 l.decls
