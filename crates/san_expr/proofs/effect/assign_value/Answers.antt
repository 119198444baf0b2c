use Rattle.std.proofs.Common.{rules, subst, SFits, w64, ℤ, Result}
use Rattle.std.proofs.lemmas.Int.{to_z-of_z}
use Rattle.san_base.specs.declared.ending.Trap.{Trap}
use Rattle.san_expr.specs.Effect.{assign_at}
use Rattle.san_expr.specs.Meets.{Meets}
use Rattle.san_expr.specs.Value.{value_of}
use Rattle.san_expr.proofs.ComposeLemmas.{meets_then}
use Rattle.san_expr.proofs.effect.assign_value.Goals as goal

pub returns : goal.returns
returns g c =
    let view_state = g.V.Marked.view_state in
    let fits : SFits w64 c.in_ok-x.x = search rules in
    let x = to_z-of_z w64 c.in_ok-x.x fits in
    let read = subst (λ (a : Result ℤ Trap). Meets (view_state c.args.view.now) (view_state c.eval.new.view) (value_of c.args.e.now) a) c.in_ok-x.was c.eval.ensures.meets in
    meets_then (view_state c.args.view.now) (view_state c.eval.new.view) (view_state c.assign.new.view) (value_of c.args.e.now) (assign_at c.args.place) c.in_ok-x.x c.assign.result read (rw x at c.assign.ensures)
