use Rattle.std.proofs.Common.{◌∙◌, ◌+◌, ap, subst, drop, Ok}
use Rattle.std.proofs.lemmas.List.{drop_all}
use Rattle.std.proofs.lemmas.Result.{err_from_is_err_and}
use Rattle.san_net.proofs.EnabledLemmas.{Stands, stands_more, stands_no, stands_trap, stands_end, rest_at, first_below}
use Rattle.san_net.proofs.predicate.all_hold.Goals as goal

pub returns-then-not-passed : goal.returns-then-not-passed
returns-then-not-passed g c =
    let view_state = g.V.Marked.view_state in
    let at = rest_at c.args.inputs.now c.loop-input.input-index c.input-item.result c.loop-input-test.true c.input-item.is in
    let stands = subst (Stands (view_state c.args.view.now) (view_state c.loop-input.view) c.args.inputs.now) at c.loop-input.invariant.stands in
    stands_no (view_state c.args.view.now) (view_state c.loop-input.view) (view_state c.predicate.new.view) c.args.inputs.now (drop (c.loop-input.input-index + 1) c.args.inputs.now) c.input-item.result
    c.predicate.result stands (c.in_ok-passed.was ∙ ap Ok c.if-not-passed.true) c.predicate.ensures

pub returns-in_err-passed : goal.returns-in_err-passed
returns-in_err-passed g c =
    let view_state = g.V.Marked.view_state in
    let at = rest_at c.args.inputs.now c.loop-input.input-index c.input-item.result c.loop-input-test.true c.input-item.is in
    let stands = subst (Stands (view_state c.args.view.now) (view_state c.loop-input.view) c.args.inputs.now) at c.loop-input.invariant.stands in
    let p = err_from_is_err_and c.from_residual.result c.from_residual.ensures.1 in
    rw (p.1, p.2) (stands_trap (view_state c.args.view.now) (view_state c.loop-input.view) (view_state c.predicate.new.view) c.args.inputs.now (drop (c.loop-input.input-index + 1) c.args.inputs.now) c.input-item.result
    c.in_err-passed.field-0.0 c.predicate.result stands c.in_err-passed.was c.predicate.ensures)

pub loop-input-preserved : goal.loop-input-preserved
loop-input-preserved g c =
    let view_state = g.V.Marked.view_state in
    let at = rest_at c.args.inputs.now c.loop-input.input-index c.input-item.result c.loop-input-test.true c.input-item.is in
    let stands = subst (Stands (view_state c.args.view.now) (view_state c.loop-input.view) c.args.inputs.now) at c.loop-input.invariant.stands in
    let below = first_below c.args.inputs.now c.loop-input.input-index _ _ c.input-item.result c.loop-input-test.true c.input-item.is c.loop-input.invariant.places c.loop-input.invariant.below in
    record {
      stands =
          stands_more (view_state c.args.view.now) (view_state c.loop-input.view) (view_state c.predicate.new.view) c.args.inputs.now (drop (c.loop-input.input-index + 1) c.args.inputs.now) c.input-item.result
          c.predicate.result stands (c.in_ok-passed.was ∙ ap Ok c.if-not-passed.false) c.predicate.ensures;
      places = c.predicate.ensures.meets.places ∙ c.loop-input.invariant.places;
      below = below.1;
    }

pub returns : goal.returns
returns g c =
    let view_state = g.V.Marked.view_state in
    stands_end (view_state c.args.view.now) (view_state c.loop-input.view) c.args.inputs.now (drop c.loop-input.input-index c.args.inputs.now) c.loop-input.invariant.stands (drop_all c.loop-input.input-index c.args.inputs.now c.loop-input-test.false)
