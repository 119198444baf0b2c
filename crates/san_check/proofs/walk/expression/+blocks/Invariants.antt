use Rattle.std.proofs.Common.{◌≡◌, drop}
use Rattle.san_check.specs.inner.Walks.{seen_all}
use Rattle.san_check.specs.walk.Expression.{stmts_entries}
use Rattle.san_check.proofs.walk.expression.+blocks.Given as goal

abbrev pub invariant-walk_stmts-stmts : goal.invariant-walk_stmts-stmts
invariant-walk_stmts-stmts l = seen_all l.walk (stmts_entries l.places (drop l.stmt-index l.body)) ≡ seen_all l.fn.walk (stmts_entries l.places l.body)
