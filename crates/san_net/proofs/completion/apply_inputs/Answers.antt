use Rattle.std.proofs.Common.{◌∙◌, ◌+◌, subst, drop}
use Rattle.std.proofs.lemmas.List.{drop_all}
use Rattle.std.proofs.lemmas.Result.{err_from_is_err_and}
use Rattle.san_net.specs.Below.{input_below}
use Rattle.san_net.specs.Completion.{function_of}
use Rattle.san_net.proofs.TurnLemmas.{Stands, stands_more, stands_trap, stands_end, rest_at, first_below}
use Rattle.san_net.proofs.completion.apply_inputs.Goals as goal

pub returns-in_err-apply_input : goal.returns-in_err-apply_input
returns-in_err-apply_input g c =
    let was = g.V.Marked.view_state c.args.view.now in
    let now = g.V.Marked.view_state c.loop-input.view in
    let at = rest_at c.args.inputs.now c.loop-input.input-index c.input-item.result c.loop-input-test.true c.input-item.is in
    let stands = subst (Stands function_of was now c.args.inputs.now) at c.loop-input.invariant.stands in
    let p = err_from_is_err_and c.from_residual.result c.from_residual.ensures.1 in
    rw (p.1, p.2) (stands_trap function_of was now (g.V.Marked.view_state c.apply_input.new.view) c.args.inputs.now (drop (c.loop-input.input-index + 1) c.args.inputs.now) c.input-item.result
    c.in_err-apply_input.field-0.0 c.apply_input.result stands c.in_err-apply_input.was c.apply_input.ensures)

pub loop-input-preserved : goal.loop-input-preserved
loop-input-preserved g c =
    let was = g.V.Marked.view_state c.args.view.now in
    let now = g.V.Marked.view_state c.loop-input.view in
    let at = rest_at c.args.inputs.now c.loop-input.input-index c.input-item.result c.loop-input-test.true c.input-item.is in
    let stands = subst (Stands function_of was now c.args.inputs.now) at c.loop-input.invariant.stands in
    let below = first_below input_below c.args.inputs.now c.loop-input.input-index _ _ c.input-item.result c.loop-input-test.true c.input-item.is c.loop-input.invariant.places c.loop-input.invariant.below in
    record {
      stands =
          stands_more function_of was now (g.V.Marked.view_state c.apply_input.new.view) c.args.inputs.now (drop (c.loop-input.input-index + 1) c.args.inputs.now) c.input-item.result
          c.apply_input.result stands c.in_ok-apply_input.was c.apply_input.ensures;
      places = c.apply_input.ensures.places ∙ c.loop-input.invariant.places;
      below = below.1;
    }

pub returns : goal.returns
returns g c =
    stands_end function_of (g.V.Marked.view_state c.args.view.now) (g.V.Marked.view_state c.loop-input.view) c.args.inputs.now (drop c.loop-input.input-index c.args.inputs.now) c.loop-input.invariant.stands
    (drop_all c.loop-input.input-index c.args.inputs.now c.loop-input-test.false)
