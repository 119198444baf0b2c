use Rattle.san_base.proofs.Bools.{not_false}
use Rattle.std.proofs.Common.{rules, ◌∙◌, ap, sym, subst, SFits, w64, true, false, drop, ◌+◌}
use Rattle.std.proofs.lemmas.Int.{to_z-of_z}
use Rattle.std.proofs.lemmas.Result.{err_from_is_err_and}
use Rattle.std.proofs.lemmas.List.{drop_all}
use Rattle.san_expr.specs.Value.{is_zero}
use Rattle.san_expr.proofs.StatementLemmas.{meets_set_cell, meets_if, Stands, stands_more, stands_trap, stands_end, rest_at, first_below, holds_true}
use Rattle.san_expr.proofs.effect.+stmts.Goals as goal

pub run_stmt-returns-in_ok-at-in-SetCell : goal.run_stmt-returns-in_ok-at-in-SetCell
run_stmt-returns-in_ok-at-in-SetCell g t c =
    let view_state = g.V.Marked.view_state in
    let fits : SFits w64 c.in_ok-at-in-SetCell.at = search rules in
    let x = to_z-of_z w64 c.in_ok-at-in-SetCell.at fits in
    meets_set_cell (view_state c.args.view.now) (view_state c.eval.new.view) (view_state c.assign_cell.new.view) c.args.stmt.now c.in-SetCell.first c.in-SetCell.length c.in-SetCell.index c.in-SetCell.e
    c.in_ok-at-in-SetCell.at c.eval.result c.assign_cell.result c.in-SetCell.is c.in_ok-at-in-SetCell.was c.eval.ensures (rw x at c.assign_cell.ensures)

pub run_stmt-returns-then-holds : goal.run_stmt-returns-then-holds
run_stmt-returns-then-holds g t c =
    let view_state = g.V.Marked.view_state in
    let fits : SFits w64 c.in_ok-x-in-If.x = search rules in
    let x = to_z-of_z w64 c.in_ok-x-in-If.x fits in
    meets_if (view_state c.args.view.now) (view_state c.eval-in-If.new.view) (view_state c.run_stmts.new.view) c.args.stmt.now c.in-If.e c.in-If.then_body c.in-If.else_body c.as_slice.result.now
    c.in_ok-x-in-If.x false c.eval-in-If.result c.run_stmts.result c.in-If.is c.in_ok-x-in-If.was c.eval-in-If.ensures
    (ap is_zero (sym x) ∙ holds_true _ (sym c.holds.ensures ∙ c.if-holds.true)) c.as_slice.ensures c.run_stmts.ensures

pub run_stmt-returns-else-holds : goal.run_stmt-returns-else-holds
run_stmt-returns-else-holds g t c =
    let view_state = g.V.Marked.view_state in
    let fits : SFits w64 c.in_ok-x-in-If.x = search rules in
    let x = to_z-of_z w64 c.in_ok-x-in-If.x fits in
    meets_if (view_state c.args.view.now) (view_state c.eval-in-If.new.view) (view_state c.run_stmts-else-holds.new.view) c.args.stmt.now c.in-If.e c.in-If.then_body c.in-If.else_body c.as_slice-else-holds.result.now
    c.in_ok-x-in-If.x true c.eval-in-If.result c.run_stmts-else-holds.result c.in-If.is c.in_ok-x-in-If.was c.eval-in-If.ensures
    (ap is_zero (sym x) ∙ not_false _ (sym c.holds.ensures ∙ c.if-holds.false)) c.as_slice-else-holds.ensures c.run_stmts-else-holds.ensures

pub run_stmts-returns-in_err-run_stmt : goal.run_stmts-returns-in_err-run_stmt
run_stmts-returns-in_err-run_stmt g t c =
    let view_state = g.V.Marked.view_state in
    let at = rest_at c.args.body.now c.loop-stmt.stmt-index c.stmt-item.result c.loop-stmt-test.true c.stmt-item.is in
    let stands = subst (Stands (view_state c.args.view.now) (view_state c.loop-stmt.view) c.args.body.now) at c.loop-stmt.invariant.stands in
    let p = err_from_is_err_and c.from_residual.result c.from_residual.ensures.1 in
    rw (p.1, p.2) (stands_trap (view_state c.args.view.now) (view_state c.loop-stmt.view) (view_state c.run_stmt.new.view) c.args.body.now (drop (c.loop-stmt.stmt-index + 1) c.args.body.now) c.stmt-item.result
    c.in_err-run_stmt.field-0.0 c.run_stmt.result stands c.in_err-run_stmt.was c.run_stmt.ensures)

pub run_stmts-loop-stmt-preserved : goal.run_stmts-loop-stmt-preserved
run_stmts-loop-stmt-preserved g t c =
    let view_state = g.V.Marked.view_state in
    let at = rest_at c.args.body.now c.loop-stmt.stmt-index c.stmt-item.result c.loop-stmt-test.true c.stmt-item.is in
    let stands = subst (Stands (view_state c.args.view.now) (view_state c.loop-stmt.view) c.args.body.now) at c.loop-stmt.invariant.stands in
    let below = first_below c.args.body.now c.loop-stmt.stmt-index _ _ c.stmt-item.result c.loop-stmt-test.true c.stmt-item.is c.loop-stmt.invariant.places c.loop-stmt.invariant.below in
    record {
      stands =
          stands_more (view_state c.args.view.now) (view_state c.loop-stmt.view) (view_state c.run_stmt.new.view) c.args.body.now (drop (c.loop-stmt.stmt-index + 1) c.args.body.now) c.stmt-item.result c.run_stmt.result
          stands c.in_ok-run_stmt.was c.run_stmt.ensures;
      places = c.run_stmt.ensures.places ∙ c.loop-stmt.invariant.places;
      below = below.1;
    }

pub run_stmts-returns : goal.run_stmts-returns
run_stmts-returns g t c =
    let view_state = g.V.Marked.view_state in
    stands_end (view_state c.args.view.now) (view_state c.loop-stmt.view) c.args.body.now (drop c.loop-stmt.stmt-index c.args.body.now) c.loop-stmt.invariant.stands (drop_all c.loop-stmt.stmt-index c.args.body.now c.loop-stmt-test.false)
