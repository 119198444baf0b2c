use Rattle.std.proofs.Common.{sym, subst, IsTrue, List}
use Rattle.san_net.specs.Below.{outputs_below}
use Rattle.san_net.specs.declared.activity.Output.{Output}
use Rattle.san_net.proofs.CompletionLemmas.{outputs_are_below}
use Rattle.san_net.proofs.completion.apply_case.Goals as goal

pub apply_outputs-requires : goal.apply_outputs-requires
apply_outputs-requires g c =
    let places = (g.V.Marked.view_state c.args.view.now).places in
    subst (λ (xs : List Output). IsTrue (outputs_below xs places)) (sym c.case_outputs.ensures) (outputs_are_below c.args.cases.now c.args.at places c.requires)
