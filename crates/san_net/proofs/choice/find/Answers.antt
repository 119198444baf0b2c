use Rattle.std.proofs.Common.{◌≡◌, ◌∙◌, ◌+◌, ℕ, sym, subst, arith, drop, length, Ok}
use Rattle.std.proofs.lemmas.List.{drop_all}
use Rattle.std.proofs.lemmas.Result.{err_from_is_err_and}
use Rattle.san_expr.specs.Meets.{Evaluates}
use Rattle.san_net.specs.Below.{case_below}
use Rattle.san_net.specs.inner.Weighing.{found_from}
use Rattle.san_net.proofs.TurnLemmas.{Finds, finds_more, finds_here, finds_trap, finds_end, rest_at, first_below}
use Rattle.san_net.proofs.choice.find.Goals as goal

pub returns-in-None : goal.returns-in-None
returns-in-None g c =
    let was = g.V.Marked.view_state c.args.view.now in
    let now = g.V.Marked.view_state c.loop-at.view in
    let at = rest_at c.args.cases.now c.loop-at.at c.index-cases-at.result c.loop-at-test.true c.index-cases-at.is in
    let finds = subst (Finds was now c.args.cases.now c.args.picked c.loop-at.left c.loop-at.at) at c.loop-at.invariant.finds in
    finds_here was now (g.V.Marked.view_state c.weight.new.view) c.args.cases.now (drop (c.loop-at.at + 1) c.args.cases.now) c.args.picked c.loop-at.left c.loop-at.at c.in_ok-weight.weight
    c.index-cases-at.result c.weight.result finds c.in_ok-weight.was (sym c.passed.ensures ∙ c.in-None.is) c.weight.ensures

pub returns-in_err-weight : goal.returns-in_err-weight
returns-in_err-weight g c =
    let was = g.V.Marked.view_state c.args.view.now in
    let now = g.V.Marked.view_state c.loop-at.view in
    let at = rest_at c.args.cases.now c.loop-at.at c.index-cases-at.result c.loop-at-test.true c.index-cases-at.is in
    let finds = subst (Finds was now c.args.cases.now c.args.picked c.loop-at.left c.loop-at.at) at c.loop-at.invariant.finds in
    let p = err_from_is_err_and c.from_residual.result c.from_residual.ensures.1 in
    rw (p.1, p.2) (finds_trap was now (g.V.Marked.view_state c.weight.new.view) c.args.cases.now (drop (c.loop-at.at + 1) c.args.cases.now) c.args.picked c.loop-at.left c.loop-at.at
    c.index-cases-at.result c.in_err-weight.field-0.0 c.weight.result finds c.in_err-weight.was c.weight.ensures)

pub loop-at-preserved : goal.loop-at-preserved
loop-at-preserved g c =
    let was = g.V.Marked.view_state c.args.view.now in
    let now = g.V.Marked.view_state c.loop-at.view in
    let at = rest_at c.args.cases.now c.loop-at.at c.index-cases-at.result c.loop-at-test.true c.index-cases-at.is in
    let finds = subst (Finds was now c.args.cases.now c.args.picked c.loop-at.left c.loop-at.at) at c.loop-at.invariant.finds in
    let below = first_below case_below c.args.cases.now c.loop-at.at _ _ c.index-cases-at.result c.loop-at-test.true c.index-cases-at.is c.loop-at.invariant.places c.loop-at.invariant.below in
    record {
      finds =
          finds_more was now (g.V.Marked.view_state c.weight.new.view) c.args.cases.now (drop (c.loop-at.at + 1) c.args.cases.now) c.args.picked c.loop-at.left c.in-Some.rest c.loop-at.at c.in_ok-weight.weight
          c.index-cases-at.result c.weight.result finds c.in_ok-weight.was (sym c.passed.ensures ∙ c.in-Some.is) c.weight.ensures;
      places = c.weight.ensures.meets.places ∙ c.loop-at.invariant.places;
      below = below.1;
    }

pub returns : goal.returns
returns g c =
    let was = g.V.Marked.view_state c.args.view.now in
    let now = g.V.Marked.view_state c.loop-at.view in
    let end : c.loop-at.at ≡ length c.args.cases.now = omega (arith, c.loop-at-test.false, c.loop-at.auto.at-end) in
    subst (λ (k : ℕ). Evaluates was now (found_from c.args.picked 0 c.args.cases.now) (Ok k)) end
    (finds_end was now c.args.cases.now (drop c.loop-at.at c.args.cases.now) c.args.picked c.loop-at.left c.loop-at.at c.loop-at.invariant.finds
    (drop_all c.loop-at.at c.args.cases.now c.loop-at-test.false))
