use Rattle.std.proofs.Common.{◌≡◌, IsTrue, drop}
use Rattle.san_expr.specs.Below.{stmts_below}
use Rattle.san_expr.proofs.StatementLemmas.{Stands}
use Rattle.san_expr.proofs.effect.+stmts.Given as goal

abbrev pub invariant-run_stmts-loop-stmt : goal.invariant-run_stmts-loop-stmt
invariant-run_stmts-loop-stmt g l =
    let was = g.V.Marked.view_state l.fn.view in
    record {
      stands : Stands was (g.V.Marked.view_state l.view) l.body (drop l.stmt-index l.body);
      places : (g.V.Marked.view_state l.view).places ≡ was.places;
      below : IsTrue (stmts_below (drop l.stmt-index l.body) was.places);
    }
