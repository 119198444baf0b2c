use Rattle.std.proofs.Common.{ap, sym, ◌∙◌}
use Rattle.std.specs.Prelude.{position, nat_eq}
use Rattle.san_tree.specs.Places.{shared_as}
use Rattle.san_tree.proofs.node.Node.shared_as.Goals as goal

pub returns-in-Rep-clause-value : goal.returns-in-Rep-clause-value
returns-in-Rep-clause-value c =
    c.first_equal.ensures.value ∙ ap (λ xs. position (λ p. nat_eq p c.args.place) xs) c.as_slice-in-Rep.ensures ∙ ap (λ node. shared_as node c.args.child c.args.place) (sym c.in-Rep.is)
