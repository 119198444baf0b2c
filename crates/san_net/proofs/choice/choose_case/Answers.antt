use Rattle.std.proofs.lemmas.Result.{err_from_is_err_and}
use Rattle.san_net.proofs.ChoiceLemmas.{chooses, choice_traps}
use Rattle.san_net.proofs.choice.choose_case.Goals as goal

pub returns : goal.returns
returns g c =
    let view_state = g.V.Marked.view_state in
    chooses c.args.u c.args.cases.now (view_state c.args.view.now) (view_state c.total.new.view) (view_state c.find_by.new.view) c.in_ok-sum.sum c.total.result c.find_by.result
    c.in_ok-sum.was c.total.ensures c.find_by.ensures

pub returns-in_err-sum : goal.returns-in_err-sum
returns-in_err-sum g c =
    let view_state = g.V.Marked.view_state in
    let p = err_from_is_err_and c.from_residual.result c.from_residual.ensures.1 in
    rw (p.1, p.2) (choice_traps c.args.u c.args.cases.now (view_state c.args.view.now) (view_state c.total.new.view) c.in_err-sum.field-0.0 c.total.result c.in_err-sum.was c.total.ensures)
