use Rattle.std.proofs.Common.{◌≡◌, take}
use Rattle.san_expr.proofs.stmt.+same_stmts.Given as goal

abbrev pub invariant-same_stmts-loop-at : goal.invariant-same_stmts-loop-at
invariant-same_stmts-loop-at l = take l.at l.a ≡ take l.at l.b
