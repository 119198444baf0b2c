use Rattle.std.proofs.Common.{ℕ, ◌+◌, [], ◌∷◌, ◌++◌, drop, sym, ap, ◌∙◌, append_assoc}
use Rattle.san_check.specs.build.Composition.{node_of, atomics_after, nodes_from}
use Rattle.san_check.proofs.EntryLemmas.{dropped}
use Rattle.san_check.proofs.build.composition.nodes_of.Goals as goal

pub models-preserved : goal.models-preserved
models-preserved c =
    let models = c.args.models.now in
    let ds = c.args.decls.now in
    let d = c.decl-item.result in
    let rest = drop (c.models.decl-index + 1) ds in
    let after = atomics_after c.models.atomics d in
    ap (λ (a : ℕ). c.push.new.self.items ++ nodes_from models a rest) c.atomics_after-atomics.ensures
    ∙ ap (λ u. u ++ nodes_from models after rest) (c.in_ok-push.ensures.items ∙ ap (λ z. c.models.found.items ++ z ∷ []) c.in_ok-node.ensures)
    ∙ append_assoc c.models.found.items (node_of models c.models.atomics d ∷ []) (nodes_from models after rest)
    ∙ ap (λ zs. c.models.found.items ++ nodes_from models c.models.atomics zs) (sym (dropped ds c.models.decl-index d c.models-test.true c.decl-item.is)) ∙ c.models.invariant
