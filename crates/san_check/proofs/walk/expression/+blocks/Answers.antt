use Rattle.san_check.specs.walk.Expression.{stmt_entries, stmts_entries}
use Rattle.san_check.specs.inner.Walks.{seen_all}
use Rattle.san_check.proofs.EntryLemmas.{list_goes_on}
use Rattle.san_check.proofs.ExprLemmas.{if_walks, cell_walks}
use Rattle.san_check.proofs.walk.expression.+blocks.Goals as goal

pub walk_stmt-returns-in-SetCell : goal.walk_stmt-returns-in-SetCell
walk_stmt-returns-in-SetCell t c =
    cell_walks c.args.places.now c.args.stmt.now c.in-SetCell.name c.in-SetCell.index c.in-SetCell.value c.args.walk.now c.see-in-SetCell.new.self c.walk_expr-in-SetCell.new.walk c.walk_expr-in-SetCell-2.new.walk c.element.result
    c.in-SetCell.is c.element.ensures c.see-in-SetCell.ensures c.walk_expr-in-SetCell.ensures c.walk_expr-in-SetCell-2.ensures

pub walk_stmt-returns-in-If : goal.walk_stmt-returns-in-If
walk_stmt-returns-in-If t c =
    if_walks c.args.places.now c.args.stmt.now c.in-If.test c.in-If.then_body c.in-If.else_body c.as_slice.result.now c.as_slice-in-If.result.now c.args.walk.now c.walk_expr-in-If.new.walk c.walk_stmts.new.walk c.walk_stmts-in-If.new.walk
    c.in-If.is c.as_slice.ensures c.as_slice-in-If.ensures c.walk_expr-in-If.ensures c.walk_stmts.ensures c.walk_stmts-in-If.ensures

pub walk_stmts-stmts-preserved : goal.walk_stmts-stmts-preserved
walk_stmts-stmts-preserved t c =
    list_goes_on (stmt_entries c.args.places.now) c.args.body.now c.stmts.stmt-index c.stmt-item.result c.stmts.walk c.walk_stmt.new.walk (seen_all c.args.walk.now (stmts_entries c.args.places.now c.args.body.now))
    c.stmts-test.true c.stmt-item.is c.walk_stmt.ensures c.stmts.invariant
