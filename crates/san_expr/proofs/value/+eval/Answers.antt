use Rattle.std.proofs.Common.{rules, ◌∙◌, ap, sym, subst, not, Ok, ℤ, SFits, w64}
use Rattle.std.proofs.lemmas.Int.{to_z-of_z}
use Rattle.std.proofs.lemmas.Result.{err_from_is_err_and}
use Rattle.san_expr.specs.Value.{is_decided, truth, is_zero, value_of}
use Rattle.san_expr.specs.Meets.{Evaluates}
use Rattle.san_expr.proofs.ComposeLemmas.{evaluates_read}
use Rattle.san_expr.proofs.EvalLemmas.{below_place, evaluates_place, evaluates_cell, evaluates_binary, rest_decided, rest_answers, rest_traps}
use Rattle.san_expr.proofs.value.+eval.Goals as goal

pub returns-in-Place : goal.returns-in-Place
returns-in-Place g t c =
    let s0 = g.V.Marked.view_state c.args.view.now in
    let s1 = g.V.Marked.view_state c.read.new.self in
    let fits : SFits w64 c.from.result = search rules in
    let read = evaluates_read s0 s1 c.in-Place.place c.read.result (below_place c.args.e.now c.in-Place.place _ c.in-Place.is c.requires) c.read.ensures in
    subst (λ (z : ℤ). Evaluates s0 s1 (value_of c.args.e.now) (Ok z)) (sym (to_z-of_z w64 c.from.result fits ∙ c.from.ensures))
    (evaluates_place s0 s1 c.args.e.now c.in-Place.place _ c.in-Place.is read)

pub returns-in_ok-at-in-Cell : goal.returns-in_ok-at-in-Cell
returns-in_ok-at-in-Cell g t c =
    let view_state = g.V.Marked.view_state in
    let fits : SFits w64 c.in_ok-at-in-Cell.at = search rules in
    let x = to_z-of_z w64 c.in_ok-at-in-Cell.at fits in
    evaluates_cell (view_state c.args.view.now) (view_state c.eval.new.view) (view_state c.read_at.new.view) c.args.e.now c.in-Cell.index c.get.result.now c.in-Cell.first c.in-Cell.length
    c.in_ok-at-in-Cell.at c.eval.result c.read_at.result c.in-Cell.is c.get.ensures c.in_ok-at-in-Cell.was c.eval.ensures (rw x at c.read_at.ensures)

pub returns-then-is_decided : goal.returns-then-is_decided
returns-then-is_decided g t c =
    let view_state = g.V.Marked.view_state in
    let fits : SFits w64 c.in_ok-x-in-Binary.x = search rules in
    let x = to_z-of_z w64 c.in_ok-x-in-Binary.x fits in
    let decided = ap (is_decided c.in-Binary.op) (sym x) ∙ sym c.is_decided.ensures ∙ c.if-is_decided.true in
    let truth_fits : SFits w64 c.truth_of-then-is_decided.result = search rules in
    evaluates_binary (view_state c.args.view.now) (view_state c.eval-in-Binary.new.view) (view_state c.eval-in-Binary.new.view) c.args.e.now c.in-Binary.left c.in-Binary.right c.get-in-Binary.result.now
    c.in-Binary.op c.in_ok-x-in-Binary.x c.eval-in-Binary.result _ c.in-Binary.is c.get-in-Binary.ensures c.in_ok-x-in-Binary.was c.eval-in-Binary.ensures
    (rest_decided (view_state c.eval-in-Binary.new.view) c.in-Binary.op c.in-Binary.right c.in_ok-x-in-Binary.x _ decided (ap Ok (to_z-of_z w64 c.truth_of-then-is_decided.result truth_fits ∙ c.truth_of-then-is_decided.ensures ∙ ap truth (c.holds.ensures ∙ ap (λ (z : ℤ). not (is_zero z)) x))))

pub returns-in_ok-y-in-Binary : goal.returns-in_ok-y-in-Binary
returns-in_ok-y-in-Binary g t c =
    let view_state = g.V.Marked.view_state in
    let fits : SFits w64 c.in_ok-x-in-Binary.x = search rules in
    let x = to_z-of_z w64 c.in_ok-x-in-Binary.x fits in
    let y_fits : SFits w64 c.in_ok-y-in-Binary.y = search rules in
    let y = to_z-of_z w64 c.in_ok-y-in-Binary.y y_fits in
    let undecided = ap (is_decided c.in-Binary.op) (sym x) ∙ sym c.is_decided.ensures ∙ c.if-is_decided.false in
    evaluates_binary (view_state c.args.view.now) (view_state c.eval-in-Binary.new.view) (view_state c.eval-else-is_decided.new.view) c.args.e.now c.in-Binary.left c.in-Binary.right c.get-in-Binary.result.now
    c.in-Binary.op c.in_ok-x-in-Binary.x c.eval-in-Binary.result c.apply.result c.in-Binary.is c.get-in-Binary.ensures c.in_ok-x-in-Binary.was c.eval-in-Binary.ensures
    (rest_answers (view_state c.eval-in-Binary.new.view) (view_state c.eval-else-is_decided.new.view) c.in-Binary.op c.in-Binary.right c.get-else-is_decided.result.now c.in_ok-x-in-Binary.x c.in_ok-y-in-Binary.y
    c.eval-else-is_decided.result c.apply.result undecided c.get-else-is_decided.ensures c.in_ok-y-in-Binary.was (rw (x, y) at c.apply.ensures) c.eval-else-is_decided.ensures)

pub returns-in_err-y-in-Binary : goal.returns-in_err-y-in-Binary
returns-in_err-y-in-Binary g t c =
    let view_state = g.V.Marked.view_state in
    let fits : SFits w64 c.in_ok-x-in-Binary.x = search rules in
    let x = to_z-of_z w64 c.in_ok-x-in-Binary.x fits in
    let undecided = ap (is_decided c.in-Binary.op) (sym x) ∙ sym c.is_decided.ensures ∙ c.if-is_decided.false in
    let p = err_from_is_err_and c.from_residual-in_err-y-in-Binary.result c.from_residual-in_err-y-in-Binary.ensures.1 in
    rw (p.1, p.2) (evaluates_binary (view_state c.args.view.now) (view_state c.eval-in-Binary.new.view) (view_state c.eval-else-is_decided.new.view) c.args.e.now c.in-Binary.left c.in-Binary.right c.get-in-Binary.result.now
    c.in-Binary.op c.in_ok-x-in-Binary.x c.eval-in-Binary.result _ c.in-Binary.is c.get-in-Binary.ensures c.in_ok-x-in-Binary.was c.eval-in-Binary.ensures
    (rest_traps (view_state c.eval-in-Binary.new.view) (view_state c.eval-else-is_decided.new.view) c.in-Binary.op c.in-Binary.right c.get-else-is_decided.result.now c.in_ok-x-in-Binary.x c.in_err-y-in-Binary.field-0.0
    c.eval-else-is_decided.result undecided c.get-else-is_decided.ensures c.in_err-y-in-Binary.was c.eval-else-is_decided.ensures))
