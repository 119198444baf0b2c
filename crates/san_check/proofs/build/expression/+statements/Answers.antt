use Rattle.san_check.specs.build.Expression.{stmt_of}
use Rattle.san_check.proofs.LoopLemmas.{map_turn}
use Rattle.san_check.proofs.build.expression.+statements.Goals as goal

pub stmts_of-stmts-preserved : goal.stmts_of-stmts-preserved
stmts_of-stmts-preserved t c =
    map_turn (stmt_of c.args.cells.now) c.args.body.now c.stmts.stmt-index c.stmt-item.result c.stmts.made.items c.push.new.self.items c.in_ok-next.next c.stmts-test.true c.stmt-item.is c.in_ok-push.ensures.items c.in_ok-next.ensures c.stmts.invariant
