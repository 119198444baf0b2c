-- The cells that an expression, statements or a distribution name in any marking: all cells of an array that is indexed.
use Rattle.std.specs.Prelude.{ℕ, ◌+◌, nat_eq, nat_lt, nat_le, Bool, false, ◌&&◌, ◌||◌, List, [], ◌∷◌, map}
use Rattle.san_expr.specs.declared.expr.Expr.{Expr}
use Rattle.san_expr.specs.declared.expr.Expr.TheOpen.{Expr-F}
use Rattle.san_expr.specs.declared.expr.Expr.TheFolds.{fold-Expr}
use Rattle.san_expr.specs.declared.stmt.Stmt.{Stmt}
use Rattle.san_expr.specs.declared.stmt.Stmt.TheOpen.{Stmt-F}
use Rattle.san_expr.specs.declared.stmt.Stmt.TheFolds.{fold-Stmt}
use Rattle.san_expr.specs.declared.dist.Dist.{Dist}
use Rattle.san_expr.specs.declared.dist.Dist.TheVariants as dist

-- a set of cells, as its test
abbrev pub CellSet : Type 0
CellSet = ℕ → Bool

abbrev pub array_cells : ℕ → ℕ → CellSet
array_cells first length q = nat_le first q && nat_lt q (first + length)

abbrev pub mentions_step : Expr-F CellSet → CellSet
mentions_step (Expr-F.Number n) q = false
mentions_step (Expr-F.Place p) q = nat_eq q p
mentions_step (Expr-F.Cell first length index) q = array_cells first length q || index q
mentions_step (Expr-F.Neg a) q = a q
mentions_step (Expr-F.Not a) q = a q
mentions_step (Expr-F.Binary op left right) q = left q || right q

abbrev pub mentions : Expr → CellSet
mentions = fold-Expr CellSet mentions_step

abbrev pub any_of : List CellSet → CellSet
any_of [] q = false
any_of (c ∷ cs) q = c q || any_of cs q

abbrev pub stmt_mentions_step : Stmt-F CellSet → CellSet
stmt_mentions_step (Stmt-F.Set p e) q = nat_eq q p || mentions e q
stmt_mentions_step (Stmt-F.SetCell first length index e) q = array_cells first length q || (mentions index q || mentions e q)
stmt_mentions_step (Stmt-F.If e then_body else_body) q = mentions e q || (any_of then_body q || any_of else_body q)

abbrev pub stmt_mentions : Stmt → CellSet
stmt_mentions = fold-Stmt CellSet stmt_mentions_step

abbrev pub stmts_mention : List Stmt → CellSet
stmts_mention body = any_of (map stmt_mentions body)

abbrev pub dist_mentions : Dist → CellSet
dist_mentions (dist.Det e) q = mentions e q
dist_mentions (dist.Uniform a b) q = mentions a q || mentions b q
dist_mentions (dist.Geom p q) c = false
dist_mentions (dist.Table entries) q = false
