use Rattle.std.proofs.Common.{ap, ◌∙◌}
use Rattle.san_text.specs.Spelling.{stmt_words}
use Rattle.san_show.specs.inner.Pages.{written}
use Rattle.san_show.proofs.PageLemmas.{items_turn, all_words}
use Rattle.san_show.proofs.StatementLemmas.{set_shown, cell_shown, if_shown}
use Rattle.san_show.proofs.statement.+stmts.Goals as goal

pub show_statement-returns-in_ok-put_mark-in-Set-2 : goal.show_statement-returns-in_ok-put_mark-in-Set-2
show_statement-returns-in_ok-put_mark-in-Set-2 t c =
    set_shown c.args.statement.now c.in-Set.name c.in-Set.value c.args.page.now c.put_name.new.self c.put_mark.new.self c.show_expr.new.page c.put_mark-in-Set.new.self c.in-Set.is
    c.in_ok-put_name-in-Set.ensures c.in_ok-put_mark-in-Set.ensures c.in_ok-show_expr-in-Set.ensures c.in_ok-put_mark-in-Set-2.ensures

pub show_statement-returns-in_ok-put_mark-in-SetCell-4 : goal.show_statement-returns-in_ok-put_mark-in-SetCell-4
show_statement-returns-in_ok-put_mark-in-SetCell-4 t c =
    cell_shown c.args.statement.now c.in-SetCell.name c.in-SetCell.index c.in-SetCell.value c.args.page.now c.put_name-in-SetCell.new.self c.put_mark-in-SetCell.new.self c.show_expr-in-SetCell.new.page c.put_mark-in-SetCell-2.new.self c.put_mark-in-SetCell-3.new.self c.show_expr-in-SetCell-2.new.page c.put_mark-in-SetCell-4.new.self c.in-SetCell.is
    c.in_ok-put_name-in-SetCell.ensures c.in_ok-put_mark-in-SetCell.ensures c.in_ok-show_expr-in-SetCell.ensures c.in_ok-put_mark-in-SetCell-2.ensures c.in_ok-put_mark-in-SetCell-3.ensures c.in_ok-show_expr-in-SetCell-2.ensures c.in_ok-put_mark-in-SetCell-4.ensures

pub show_statement-returns-in_ok-show_else-in-If : goal.show_statement-returns-in_ok-show_else-in-If
show_statement-returns-in_ok-show_else-in-If t c =
    if_shown c.args.statement.now c.in-If.test c.in-If.then c.in-If.other c.as_slice.result.now c.as_slice-in-If.result.now c.args.page.now c.put_keyword.new.self c.show_expr-in-If.new.page c.show_block.new.page c.show_else.new.page c.in-If.is c.as_slice.ensures c.as_slice-in-If.ensures
    c.in_ok-put_keyword-in-If.ensures c.in_ok-show_expr-in-If.ensures c.in_ok-show_block-in-If.ensures c.in_ok-show_else-in-If.ensures

pub show_statements-next-preserved : goal.show_statements-next-preserved
show_statements-next-preserved t c =
    items_turn stmt_words c.args.body.now c.next.statement-index c.statement-item.result c.next.page c.show_statement.new.page (written c.args.page.now (all_words stmt_words c.args.body.now)) c.next-test.true
    (c.in_ok-show_statement.ensures ∙ ap (λ x. written c.next.page (stmt_words x)) c.statement-item.is) c.next.invariant
