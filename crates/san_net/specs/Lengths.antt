-- Every array that is indexed has a cell.
use Rattle.std.specs.Prelude.{nat_le, Bool, true, ◌&&◌, List, [], ◌∷◌, map, Option, Some, None}
use Rattle.san_expr.specs.declared.expr.Expr.{Expr}
use Rattle.san_expr.specs.declared.expr.Expr.TheOpen.{Expr-F}
use Rattle.san_expr.specs.declared.expr.Expr.TheFolds.{fold-Expr}
use Rattle.san_expr.specs.declared.stmt.Stmt.{Stmt}
use Rattle.san_expr.specs.declared.stmt.Stmt.TheOpen.{Stmt-F}
use Rattle.san_expr.specs.declared.stmt.Stmt.TheFolds.{fold-Stmt}
use Rattle.san_expr.specs.declared.dist.Dist.{Dist}
use Rattle.san_expr.specs.declared.dist.Dist.TheVariants as dist
use Rattle.san_net.specs.declared.activity.Input.{Input}
use Rattle.san_net.specs.declared.activity.Input.TheVariants as input
use Rattle.san_net.specs.declared.activity.Output.{Output}
use Rattle.san_net.specs.declared.activity.Output.TheVariants as output
use Rattle.san_net.specs.declared.activity.Case.{Case}
use Rattle.san_net.specs.declared.activity.ActKind.{ActKind}
use Rattle.san_net.specs.declared.activity.ActKind.TheVariants as kind
use Rattle.san_net.specs.declared.activity.Activity.{Activity}

abbrev pub lengths_step : Expr-F Bool → Bool
lengths_step (Expr-F.Number n) = true
lengths_step (Expr-F.Place p) = true
lengths_step (Expr-F.Cell first length index) = nat_le 1 length && index
lengths_step (Expr-F.Neg a) = a
lengths_step (Expr-F.Not a) = a
lengths_step (Expr-F.Binary op left right) = left && right

abbrev pub has_lengths : Expr → Bool
has_lengths = fold-Expr Bool lengths_step

abbrev pub all_true : List Bool → Bool
all_true [] = true
all_true (b ∷ bs) = b && all_true bs

abbrev pub stmt_lengths_step : Stmt-F Bool → Bool
stmt_lengths_step (Stmt-F.Set p e) = has_lengths e
stmt_lengths_step (Stmt-F.SetCell first length index e) = nat_le 1 length && (has_lengths index && has_lengths e)
stmt_lengths_step (Stmt-F.If e then_body else_body) = has_lengths e && (all_true then_body && all_true else_body)

abbrev pub stmt_has_lengths : Stmt → Bool
stmt_has_lengths = fold-Stmt Bool stmt_lengths_step

abbrev pub stmts_have_lengths : List Stmt → Bool
stmts_have_lengths body = all_true (map stmt_has_lengths body)

abbrev pub dist_has_lengths : Dist → Bool
dist_has_lengths (dist.Det e) = has_lengths e
dist_has_lengths (dist.Uniform a b) = has_lengths a && has_lengths b
dist_has_lengths (dist.Geom p q) = true
dist_has_lengths (dist.Table entries) = true

abbrev pub pair_has_lengths : Option (Expr × Expr) → Bool
pair_has_lengths None = true
pair_has_lengths (Some pair) = has_lengths pair.0 && has_lengths pair.1

abbrev pub kind_has_lengths : ActKind → Bool
kind_has_lengths (kind.Timed delay pair) = dist_has_lengths delay && pair_has_lengths pair
kind_has_lengths (kind.Instant priority) = true

abbrev pub input_has_lengths : Input → Bool
input_has_lengths (input.Arc p w) = true
input_has_lengths (input.Gate e body) = has_lengths e && stmts_have_lengths body

abbrev pub output_has_lengths : Output → Bool
output_has_lengths (output.Arc p w) = true
output_has_lengths (output.Body body) = stmts_have_lengths body

abbrev pub case_has_lengths : Case → Bool
case_has_lengths c = has_lengths c.weight && all_true (map output_has_lengths c.outputs)

abbrev pub activity_has_lengths : Activity → Bool
activity_has_lengths a = kind_has_lengths a.kind && (all_true (map input_has_lengths a.inputs) && all_true (map case_has_lengths a.cases))
