use Rattle.std.proofs.Common.{◌∙◌, ◌+◌, subst, drop}
use Rattle.std.proofs.lemmas.List.{drop_all}
use Rattle.std.proofs.lemmas.Result.{err_from_is_err_and}
use Rattle.san_net.specs.Below.{output_below}
use Rattle.san_net.specs.Completion.{output_of}
use Rattle.san_net.proofs.TurnLemmas.{Stands, stands_more, stands_trap, stands_end, rest_at, first_below}
use Rattle.san_net.proofs.completion.apply_outputs.Goals as goal

pub returns-in_err-apply_output : goal.returns-in_err-apply_output
returns-in_err-apply_output g c =
    let was = g.V.Marked.view_state c.args.view.now in
    let now = g.V.Marked.view_state c.loop-output.view in
    let at = rest_at c.args.outputs.now c.loop-output.output-index c.output-item.result c.loop-output-test.true c.output-item.is in
    let stands = subst (Stands output_of was now c.args.outputs.now) at c.loop-output.invariant.stands in
    let p = err_from_is_err_and c.from_residual.result c.from_residual.ensures.1 in
    rw (p.1, p.2) (stands_trap output_of was now (g.V.Marked.view_state c.apply_output.new.view) c.args.outputs.now (drop (c.loop-output.output-index + 1) c.args.outputs.now) c.output-item.result
    c.in_err-apply_output.field-0.0 c.apply_output.result stands c.in_err-apply_output.was c.apply_output.ensures)

pub loop-output-preserved : goal.loop-output-preserved
loop-output-preserved g c =
    let was = g.V.Marked.view_state c.args.view.now in
    let now = g.V.Marked.view_state c.loop-output.view in
    let at = rest_at c.args.outputs.now c.loop-output.output-index c.output-item.result c.loop-output-test.true c.output-item.is in
    let stands = subst (Stands output_of was now c.args.outputs.now) at c.loop-output.invariant.stands in
    let below = first_below output_below c.args.outputs.now c.loop-output.output-index _ _ c.output-item.result c.loop-output-test.true c.output-item.is c.loop-output.invariant.places c.loop-output.invariant.below in
    record {
      stands =
          stands_more output_of was now (g.V.Marked.view_state c.apply_output.new.view) c.args.outputs.now (drop (c.loop-output.output-index + 1) c.args.outputs.now) c.output-item.result
          c.apply_output.result stands c.in_ok-apply_output.was c.apply_output.ensures;
      places = c.apply_output.ensures.places ∙ c.loop-output.invariant.places;
      below = below.1;
    }

pub returns : goal.returns
returns g c =
    stands_end output_of (g.V.Marked.view_state c.args.view.now) (g.V.Marked.view_state c.loop-output.view) c.args.outputs.now (drop c.loop-output.output-index c.args.outputs.now) c.loop-output.invariant.stands
    (drop_all c.loop-output.output-index c.args.outputs.now c.loop-output-test.false)
