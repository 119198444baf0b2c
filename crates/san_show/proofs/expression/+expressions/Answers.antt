use Rattle.san_show.proofs.ExpressionLemmas.{group_shown, cell_shown, binary_shown}
use Rattle.san_show.proofs.expression.+expressions.Goals as goal

pub show_expr-returns-in_ok-put_mark-in-Cell-2 : goal.show_expr-returns-in_ok-put_mark-in-Cell-2
show_expr-returns-in_ok-put_mark-in-Cell-2 t c =
    cell_shown c.args.e.now c.in-Cell.index c.get.result.now c.in-Cell.name c.args.page.now c.put_name-in-Cell.new.self c.put_mark.new.self c.show_expr.new.page c.put_mark-in-Cell.new.self c.in-Cell.is c.get.ensures
    c.in_ok-put_name-in-Cell.ensures c.in_ok-put_mark-in-Cell.ensures c.in_ok-show_expr-in-Cell.ensures c.in_ok-put_mark-in-Cell-2.ensures

pub show_expr-returns-in_ok-put_mark-in-Group-2 : goal.show_expr-returns-in_ok-put_mark-in-Group-2
show_expr-returns-in_ok-put_mark-in-Group-2 t c =
    group_shown c.args.e.now c.in-Group.x c.get-in-Group.result.now c.args.page.now c.put_mark-in-Group.new.self c.show_expr-in-Group.new.page c.put_mark-in-Group-2.new.self c.in-Group.is c.get-in-Group.ensures
    c.in_ok-put_mark-in-Group.ensures c.in_ok-show_expr-in-Group.ensures c.in_ok-put_mark-in-Group-2.ensures

pub show_expr-returns-in_ok-show_expr-in-Binary-2 : goal.show_expr-returns-in_ok-show_expr-in-Binary-2
show_expr-returns-in_ok-show_expr-in-Binary-2 t c =
    binary_shown c.args.e.now c.in-Binary.x c.in-Binary.y c.get-in-Binary.result.now c.get-in-Binary-2.result.now c.in-Binary.op c.args.page.now c.show_expr-in-Binary.new.page c.put_sign.new.self c.show_expr-in-Binary-2.new.page c.in-Binary.is c.get-in-Binary.ensures c.get-in-Binary-2.ensures
    c.in_ok-show_expr-in-Binary.ensures c.in_ok-put_sign-in-Binary.ensures c.in_ok-show_expr-in-Binary-2.ensures
