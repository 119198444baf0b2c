-- What expressions, statements and delays of a syntax stand for over an atomic's cells.
use Rattle.std.specs.Prelude.{ℕ, pos, List, map, min}
use Rattle.san_text.specs.declared.syntax.Ast.{Ast}
use Rattle.san_text.specs.declared.syntax.Ast.TheOpen.{Ast-F}
use Rattle.san_text.specs.declared.syntax.Ast.TheFolds.{fold-Ast}
use Rattle.san_text.specs.declared.syntax.StmtDecl.{StmtDecl}
use Rattle.san_text.specs.declared.syntax.StmtDecl.TheOpen.{StmtDecl-F}
use Rattle.san_text.specs.declared.syntax.StmtDecl.TheFolds.{fold-StmtDecl}
use Rattle.san_text.specs.declared.syntax.DistDecl.{DistDecl}
use Rattle.san_text.specs.declared.syntax.DistDecl.TheVariants as decl
use Rattle.san_expr.specs.declared.expr.Expr.{Expr}
use Rattle.san_expr.specs.declared.expr.Expr.TheVariants as leaf
use Rattle.san_expr.specs.declared.expr.Expr.TheViews as expr
use Rattle.san_expr.specs.declared.stmt.Stmt.{Stmt}
use Rattle.san_expr.specs.declared.stmt.Stmt.TheVariants as plain
use Rattle.san_expr.specs.declared.stmt.Stmt.TheViews as stmt
use Rattle.san_expr.specs.declared.dist.Dist.{Dist}
use Rattle.san_expr.specs.declared.dist.Dist.TheVariants as dist
use Rattle.san_lex.specs.declared.byte.TheConstants.{MAX_NUMBER}
use Rattle.san_check.specs.declared.build.cells.Cells.{Cells}
use Rattle.san_check.specs.build.Cells.{CellTable, cells_at}
use Rattle.san_check.specs.build.Composition.{capped}

-- an element of an array by its index
abbrev pub cell_in : Cells → Expr → Expr
cell_in cells index = expr.Cell cells.first cells.length index

-- numbers count up to the greatest one, which none of a text that is read exceeds
abbrev pub number_of : ℕ → Expr
number_of n = leaf.Number (pos (min n MAX_NUMBER))

abbrev pub expr_of_step : CellTable → Ast-F Expr → Expr
expr_of_step cells (Ast-F.Number n) = number_of n
expr_of_step cells (Ast-F.Name name) = leaf.Place (cells_at cells name).first
expr_of_step cells (Ast-F.Cell name index) = cell_in (cells_at cells name) index
expr_of_step cells (Ast-F.Neg a) = expr.Neg a
expr_of_step cells (Ast-F.Not a) = expr.Not a
expr_of_step cells (Ast-F.Binary op a b) = expr.Binary op a b
expr_of_step cells (Ast-F.Group a) = a

-- round brackets are left out
abbrev pub expr_of : CellTable → Ast → Expr
expr_of cells = fold-Ast Expr (expr_of_step cells)

abbrev pub set_in : Cells → Expr → Expr → Stmt
set_in cells index value = plain.SetCell cells.first cells.length index value

abbrev pub stmt_of_step : CellTable → StmtDecl-F Stmt → Stmt
stmt_of_step cells (StmtDecl-F.Set name e) = plain.Set (cells_at cells name).first (expr_of cells e)
stmt_of_step cells (StmtDecl-F.SetCell name index e) = set_in (cells_at cells name) (expr_of cells index) (expr_of cells e)
stmt_of_step cells (StmtDecl-F.If e then_body else_body) = stmt.If (expr_of cells e) then_body else_body

abbrev pub stmt_of : CellTable → StmtDecl → Stmt
stmt_of cells = fold-StmtDecl Stmt (stmt_of_step cells)

abbrev pub stmts_of : CellTable → List StmtDecl → List Stmt
stmts_of cells = map (stmt_of cells)

unfoldable pub dist_of : CellTable → DistDecl → Dist
dist_of cells (decl.Det e) = dist.Det (expr_of cells e)
dist_of cells (decl.Uniform a b) = dist.Uniform (expr_of cells a) (expr_of cells b)
dist_of cells (decl.Geom p q) = dist.Geom (capped p) (capped q)
dist_of cells (decl.Table entries) = dist.Table entries
