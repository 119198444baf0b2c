-- Every cell of an expression, of statements, of a distribution is below a number.
use Rattle.std.specs.Prelude.{ℕ, ◌+◌, ◌^◌, nat_lt, nat_le, Bool, true, ◌&&◌, List, [], ◌∷◌, map}
use Rattle.san_expr.specs.declared.expr.Expr.{Expr}
use Rattle.san_expr.specs.declared.expr.Expr.TheOpen.{Expr-F}
use Rattle.san_expr.specs.declared.expr.Expr.TheFolds.{fold-Expr}
use Rattle.san_expr.specs.declared.stmt.Stmt.{Stmt}
use Rattle.san_expr.specs.declared.stmt.Stmt.TheOpen.{Stmt-F}
use Rattle.san_expr.specs.declared.stmt.Stmt.TheFolds.{fold-Stmt}
use Rattle.san_expr.specs.declared.dist.Dist.{Dist}
use Rattle.san_expr.specs.declared.dist.Dist.TheVariants as dist

abbrev pub Bounded : Type 0
Bounded = ℕ → Bool

-- all cells of an array are below it, and have numbers that a `u32` can hold
abbrev pub array_below : ℕ → ℕ → Bounded
array_below first length k = nat_le (first + length) k && nat_le (first + length) (2 ^ 32)

abbrev pub places_below_step : Expr-F Bounded → Bounded
places_below_step (Expr-F.Number n) k = true
places_below_step (Expr-F.Place p) k = nat_lt p k
places_below_step (Expr-F.Cell first length index) k = array_below first length k && index k
places_below_step (Expr-F.Neg a) k = a k
places_below_step (Expr-F.Not a) k = a k
places_below_step (Expr-F.Binary op left right) k = left k && right k

abbrev pub places_below : Expr → Bounded
places_below = fold-Expr Bounded places_below_step

abbrev pub all_below : List Bounded → Bounded
all_below [] k = true
all_below (b ∷ bs) k = b k && all_below bs k

abbrev pub stmt_below_step : Stmt-F Bounded → Bounded
stmt_below_step (Stmt-F.Set p e) k = nat_lt p k && places_below e k
stmt_below_step (Stmt-F.SetCell first length index e) k = array_below first length k && (places_below index k && places_below e k)
stmt_below_step (Stmt-F.If e then_body else_body) k = places_below e k && (all_below then_body k && all_below else_body k)

abbrev pub stmt_below : Stmt → Bounded
stmt_below = fold-Stmt Bounded stmt_below_step

abbrev pub stmts_below : List Stmt → Bounded
stmts_below body = all_below (map stmt_below body)

abbrev pub dist_below : Dist → Bounded
dist_below (dist.Det e) k = places_below e k
dist_below (dist.Uniform a b) k = places_below a k && places_below b k
dist_below (dist.Geom p q) k = true
dist_below (dist.Table entries) k = true
