use Rattle.std.proofs.Common.{rules, SFits, w64}
use Rattle.std.proofs.lemmas.Int.{to_z-of_z}
use Rattle.std.proofs.lemmas.Result.{err_from_is_err_and}
use Rattle.san_expr.specs.Delay.{between, ticks_of}
use Rattle.san_expr.specs.Value.{value_of}
use Rattle.san_delay.proofs.BoundsLemmas.{both_answer, second_traps}
use Rattle.san_delay.proofs.uniform.delay.Goals as goal

pub returns-clause-value : goal.returns-clause-value
returns-clause-value g c =
    let view_state = g.V.Marked.view_state in
    let x_fits : SFits w64 c.in_ok-x.x = search rules in
    let x = to_z-of_z w64 c.in_ok-x.x x_fits in
    let y_fits : SFits w64 c.in_ok-y.y = search rules in
    let y = to_z-of_z w64 c.in_ok-y.y y_fits in
    both_answer (view_state c.args.view.now) (view_state c.eval.new.view) (view_state c.eval-2.new.view) (value_of c.args.low.now) (value_of c.args.high.now)
    (λ v w. between c.args.u (ticks_of v) (ticks_of w)) c.in_ok-x.x c.eval.result c.eval-2.result c.in_ok-x.was c.eval.ensures c.eval-2.ensures
    c.in_ok-y.y c.between.result c.in_ok-y.was (rw (x, y) at c.between.ensures.value)

pub returns-in_err-y-clause-value : goal.returns-in_err-y-clause-value
returns-in_err-y-clause-value g c =
    let view_state = g.V.Marked.view_state in
    let p = err_from_is_err_and c.from_residual-in_err-y.result c.from_residual-in_err-y.ensures.1 in
    rw (p.1, p.2) (second_traps (view_state c.args.view.now) (view_state c.eval.new.view) (view_state c.eval-2.new.view) (value_of c.args.low.now) (value_of c.args.high.now)
    (λ v w. between c.args.u (ticks_of v) (ticks_of w)) c.in_ok-x.x c.eval.result c.eval-2.result c.in_ok-x.was c.eval.ensures c.eval-2.ensures
    c.in_err-y.field-0.0 c.in_err-y.was)
