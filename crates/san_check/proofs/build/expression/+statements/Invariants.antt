use Rattle.std.proofs.Common.{◌≡◌, ◌++◌, drop, map}
use Rattle.san_check.specs.build.Expression.{stmt_of}
use Rattle.san_check.proofs.build.expression.+statements.Given as goal

abbrev pub invariant-stmts_of-stmts : goal.invariant-stmts_of-stmts
invariant-stmts_of-stmts l = l.made.items ++ map (stmt_of l.cells) (drop l.stmt-index l.body) ≡ map (stmt_of l.cells) l.body
