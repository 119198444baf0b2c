-- What activities of a syntax stand for over an atomic's cells.
use Rattle.std.specs.Prelude.{ℕ, pos, List, [], ◌∷◌, map, Option, Some, None, unwrap_or}
use Rattle.san_text.specs.declared.syntax.Ast.{Ast}
use Rattle.san_text.specs.declared.syntax.ActDecl.{ActDecl}
use Rattle.san_text.specs.declared.syntax.Timing.{Timing}
use Rattle.san_text.specs.declared.syntax.InputDecl.{InputDecl}
use Rattle.san_text.specs.declared.syntax.InputDecl.TheVariants as in_decl
use Rattle.san_text.specs.declared.syntax.OutputDecl.{OutputDecl}
use Rattle.san_text.specs.declared.syntax.OutputDecl.TheVariants as out_decl
use Rattle.san_text.specs.declared.syntax.Cases.{Cases}
use Rattle.san_text.specs.declared.syntax.Cases.TheVariants as cases
use Rattle.san_text.specs.declared.syntax.CaseDecl.{CaseDecl}
use Rattle.san_expr.specs.declared.expr.Expr.{Expr}
use Rattle.san_expr.specs.declared.expr.Expr.TheVariants as leaf
use Rattle.san_net.specs.declared.activity.Input.{Input}
use Rattle.san_net.specs.declared.activity.Input.TheVariants as input
use Rattle.san_net.specs.declared.activity.Output.{Output}
use Rattle.san_net.specs.declared.activity.Output.TheVariants as output
use Rattle.san_net.specs.declared.activity.Case.{Case}
use Rattle.san_net.specs.declared.activity.ActKind.{ActKind}
use Rattle.san_net.specs.declared.activity.ActKind.TheVariants as kind
use Rattle.san_net.specs.declared.activity.Activity.{Activity}
use Rattle.san_check.specs.build.Cells.{CellTable, cells_at}
use Rattle.san_check.specs.build.Expression.{expr_of, stmts_of, dist_of}
use Rattle.san_check.specs.build.Composition.{capped}

-- a weight that isn't written is 1
abbrev pub weight_of : Option ℕ → ℕ
weight_of weight = capped (unwrap_or weight 1)

unfoldable pub input_of : CellTable → InputDecl → Input
input_of cells (in_decl.Arc name weight) = input.Arc (cells_at cells name).first (weight_of weight)
input_of cells (in_decl.Gate e body) = input.Gate (expr_of cells e) (stmts_of cells body)

unfoldable pub output_of : CellTable → OutputDecl → Output
output_of cells (out_decl.Arc name weight) = output.Arc (cells_at cells name).first (weight_of weight)
output_of cells (out_decl.Body body) = output.Body (stmts_of cells body)

abbrev pub outputs_of : CellTable → List OutputDecl → List Output
outputs_of cells = map (output_of cells)

abbrev pub case_of : CellTable → CaseDecl → Case
case_of cells c = record { weight = expr_of cells c.weight; outputs = outputs_of cells c.outputs }

-- outputs without cases are one case of weight 1
abbrev pub only_case : CellTable → List OutputDecl → Case
only_case cells outputs = record { weight = leaf.Number (pos 1); outputs = outputs_of cells outputs }

unfoldable pub cases_of : CellTable → Cases → List Case
cases_of cells (cases.Plain outputs) = only_case cells outputs ∷ []
cases_of cells (cases.Weighted list) = map (case_of cells) list

unfoldable pub pair_of : CellTable → Option (Ast × Ast) → Option (Expr × Expr)
pair_of cells None = None
pair_of cells (Some pair) = Some (expr_of cells pair.0, expr_of cells pair.1)

-- a priority that isn't written is 0
unfoldable pub kind_of : CellTable → Option Timing → Option ℕ → ActKind
kind_of cells None priority = kind.Instant (capped (unwrap_or priority 0))
kind_of cells (Some timing) priority = kind.Timed (dist_of cells timing.delay) (pair_of cells timing.pair)

abbrev pub activity_of : CellTable → ActDecl → Activity
activity_of cells a = record { kind = kind_of cells a.timing a.priority; inputs = map (input_of cells) a.inputs; cases = cases_of cells a.cases }

abbrev pub act_of : CellTable → ActDecl → List ℕ × Activity
act_of cells a = (a.name, activity_of cells a)
