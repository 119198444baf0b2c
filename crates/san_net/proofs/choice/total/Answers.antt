use Rattle.std.proofs.Common.{◌∙◌, ◌+◌, sym, subst, drop, Option, ℕ}
use Rattle.std.proofs.lemmas.List.{drop_all}
use Rattle.std.proofs.lemmas.Result.{err_from_is_err_and}
use Rattle.san_net.specs.Below.{case_below}
use Rattle.san_net.proofs.TurnLemmas.{Sums, sums_more, sums_trap, sums_end, rest_at, first_below}
use Rattle.san_net.proofs.choice.total.Goals as goal

pub returns-in_err-weight : goal.returns-in_err-weight
returns-in_err-weight g c =
    let was = g.V.Marked.view_state c.args.view.now in
    let now = g.V.Marked.view_state c.loop-case.view in
    let at = rest_at c.args.cases.now c.loop-case.case-index c.case-item.result c.loop-case-test.true c.case-item.is in
    let sums = subst (Sums was now c.args.cases.now c.loop-case.sum) at c.loop-case.invariant.sums in
    let p = err_from_is_err_and c.from_residual.result c.from_residual.ensures.1 in
    rw (p.1, p.2) (sums_trap was now (g.V.Marked.view_state c.weight.new.view) c.args.cases.now (drop (c.loop-case.case-index + 1) c.args.cases.now) c.loop-case.sum c.case-item.result
    c.in_err-weight.field-0.0 c.weight.result sums c.in_err-weight.was c.weight.ensures)

pub loop-case-preserved : goal.loop-case-preserved
loop-case-preserved g c =
    let was = g.V.Marked.view_state c.args.view.now in
    let now = g.V.Marked.view_state c.loop-case.view in
    let next = g.V.Marked.view_state c.weight.new.view in
    let rest = drop (c.loop-case.case-index + 1) c.args.cases.now in
    let at = rest_at c.args.cases.now c.loop-case.case-index c.case-item.result c.loop-case-test.true c.case-item.is in
    let sums = subst (Sums was now c.args.cases.now c.loop-case.sum) at c.loop-case.invariant.sums in
    let below = first_below case_below c.args.cases.now c.loop-case.case-index _ _ c.case-item.result c.loop-case-test.true c.case-item.is c.loop-case.invariant.places c.loop-case.invariant.below in
    record {
      sums =
          subst (λ (n : Option ℕ). Sums was next c.args.cases.now n rest) (sym c.weigh-sum.ensures)
          (sums_more was now next c.args.cases.now rest c.loop-case.sum c.in_ok-weight.weight c.case-item.result c.weight.result sums c.in_ok-weight.was c.weight.ensures);
      places = c.weight.ensures.meets.places ∙ c.loop-case.invariant.places;
      below = below.1;
    }

pub returns : goal.returns
returns g c =
    let was = g.V.Marked.view_state c.args.view.now in
    let now = g.V.Marked.view_state c.loop-case.view in
    sums_end was now c.args.cases.now (drop c.loop-case.case-index c.args.cases.now) c.loop-case.sum c.loop-case.invariant.sums
    (drop_all c.loop-case.case-index c.args.cases.now c.loop-case-test.false)
