use Rattle.std.proofs.Common.{◌≡◌, drop}
use Rattle.san_expr.specs.Below.{stmts_below}
use Rattle.san_expr.proofs.below.+below.Given as goal

abbrev pub invariant-stmts_below-loop-stmt : goal.invariant-stmts_below-loop-stmt
invariant-stmts_below-loop-stmt l = stmts_below l.body l.places ≡ stmts_below (drop l.stmt-index l.body) l.places
