use Rattle.std.proofs.lemmas.Result.{err_from_is_err_and}
use Rattle.san_net.proofs.CompletionLemmas.{completes, outputs_trap, inputs_trap, choice_traps}
use Rattle.san_net.proofs.completion.complete_by.Goals as goal

pub returns : goal.returns
returns g c =
    let view_state = g.V.Marked.view_state in
    completes c.args.u c.args.inputs.now c.args.cases.now (view_state c.args.view.now) (view_state c.choose_case.new.view) (view_state c.apply_inputs.new.view) (view_state c.apply_case.new.view)
    c.in_ok-at.at c.choose_case.result c.apply_inputs.result c.apply_case.result c.in_ok-at.was c.in_ok-apply_inputs.was c.in_ok-apply_case.was c.choose_case.ensures c.apply_inputs.ensures c.apply_case.ensures

pub returns-in_err-apply_case : goal.returns-in_err-apply_case
returns-in_err-apply_case g c =
    let view_state = g.V.Marked.view_state in
    let p = err_from_is_err_and c.from_residual-in_err-apply_case.result c.from_residual-in_err-apply_case.ensures.1 in
    rw (p.1, p.2) (outputs_trap c.args.u c.args.inputs.now c.args.cases.now (view_state c.args.view.now) (view_state c.choose_case.new.view) (view_state c.apply_inputs.new.view) (view_state c.apply_case.new.view)
    c.in_ok-at.at c.in_err-apply_case.field-0.0 c.choose_case.result c.apply_inputs.result c.apply_case.result c.in_ok-at.was c.in_ok-apply_inputs.was c.in_err-apply_case.was
    c.choose_case.ensures c.apply_inputs.ensures c.apply_case.ensures)

pub returns-in_err-apply_inputs : goal.returns-in_err-apply_inputs
returns-in_err-apply_inputs g c =
    let view_state = g.V.Marked.view_state in
    let p = err_from_is_err_and c.from_residual-in_err-apply_inputs.result c.from_residual-in_err-apply_inputs.ensures.1 in
    rw (p.1, p.2) (inputs_trap c.args.u c.args.inputs.now c.args.cases.now (view_state c.args.view.now) (view_state c.choose_case.new.view) (view_state c.apply_inputs.new.view)
    c.in_ok-at.at c.in_err-apply_inputs.field-0.0 c.choose_case.result c.apply_inputs.result c.in_ok-at.was c.in_err-apply_inputs.was c.choose_case.ensures c.apply_inputs.ensures)

pub returns-in_err-at : goal.returns-in_err-at
returns-in_err-at g c =
    let view_state = g.V.Marked.view_state in
    let p = err_from_is_err_and c.from_residual.result c.from_residual.ensures.1 in
    rw (p.1, p.2) (choice_traps c.args.u c.args.inputs.now c.args.cases.now (view_state c.args.view.now) (view_state c.choose_case.new.view) c.in_err-at.field-0.0 c.choose_case.result c.in_err-at.was c.choose_case.ensures)
