-- Worked values: the atomic of a model, and its cells.
use Rattle.std.specs.Prelude.{◌≡◌, pos, List, [], ◌∷◌, codes, Some, None}
use Rattle.std.proofs.Common.{refl}
use Rattle.san_text.specs.declared.syntax.PlaceDecl.{PlaceDecl}
use Rattle.san_text.specs.declared.syntax.ActDecl.{ActDecl}
use Rattle.san_text.specs.declared.syntax.InputDecl.TheVariants as in_decl
use Rattle.san_text.specs.declared.syntax.OutputDecl.TheVariants as out_decl
use Rattle.san_text.specs.declared.syntax.DistDecl.TheVariants as decl
use Rattle.san_text.specs.declared.syntax.Cases.TheVariants as cases
use Rattle.san_expr.specs.declared.expr.Expr.TheVariants as leaf
use Rattle.san_expr.specs.declared.dist.Dist.TheVariants as dist
use Rattle.san_net.specs.declared.activity.Input.TheVariants as input
use Rattle.san_net.specs.declared.activity.Output.{Output}
use Rattle.san_net.specs.declared.activity.Output.TheVariants as output
use Rattle.san_net.specs.declared.activity.ActKind.TheVariants as kind
use Rattle.san_net.specs.declared.activity.Case.{Case}
use Rattle.san_net.specs.declared.atomic.Atomic.{Atomic}
use Rattle.san_check.specs.Tables.{declared}
use Rattle.san_check.specs.build.Cells.{cells_at, all_elements}
use Rattle.san_check.specs.build.Expression.{dist_of}
use Rattle.san_check.specs.build.Activity.{input_of, output_of, cases_of, pair_of, kind_of}
use Rattle.san_check.specs.build.Atomic.{atomic_of}

-- san 3; atomic x { place q[2] = 5; place p; instant t { in p 2; out p; } timed u { delay geom 1 4; } instant v priority 7 { } } system x;
abbrev places : List PlaceDecl
places = record { name = codes "q"; length = Some 2; initial = Some 5 } ∷ record { name = codes "p"; length = None; initial = None } ∷ []

abbrev acts : List ActDecl
acts =
    record { name = codes "t"; priority = None; inputs = in_decl.Arc (codes "p") (Some 2) ∷ []; timing = None; cases = cases.Plain (out_decl.Arc (codes "p") None ∷ []) }
    ∷ record { name = codes "u"; priority = None; inputs = []; timing = Some (record { delay = decl.Geom 1 4; pair = None }); cases = cases.Plain [] }
    ∷ record { name = codes "v"; priority = Some 7; inputs = []; timing = None; cases = cases.Plain [] }
    ∷ []

abbrev one_case : List Output → List Case
one_case outputs = record { weight = leaf.Number (pos 1); outputs = outputs } ∷ []

abbrev made : Atomic
made = record {
  name = codes "x";
  initial = 5 ∷ 5 ∷ 0 ∷ [];
  acts =
      (codes "t", record { kind = kind.Instant 0; inputs = input.Arc 2 2 ∷ []; cases = one_case (output.Arc 2 1 ∷ []) })
      ∷ (codes "u", record { kind = kind.Timed (dist.Geom 1 4) None; inputs = []; cases = one_case [] })
      ∷ (codes "v", record { kind = kind.Instant 7; inputs = []; cases = one_case [] })
      ∷ [];
  instants = 2 ∷ 0 ∷ [];
  rates = [];
  impulses = [];
}

atomic_of_a_model : atomic_of (codes "x") places acts [] ≡ made
unfolding declared cells_at dist_of input_of output_of cases_of pair_of kind_of
atomic_of_a_model = refl

cells_of_a_model : all_elements 0 places ≡ (0, 0) ∷ (0, 1) ∷ (1, 0) ∷ []
cells_of_a_model = refl
