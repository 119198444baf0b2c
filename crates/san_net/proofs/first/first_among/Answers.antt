use Rattle.std.proofs.Common.{ℕ, ◌∙◌, ◌+◌, ap, subst, drop, get_or, List, Ok}
use Rattle.std.proofs.lemmas.List.{drop_all}
use Rattle.san_net.proofs.FirstLemmas.{Stands, stands_more, stands_yes, stands_trap, stands_end, rest_at}
use Rattle.san_net.proofs.first.first_among.Goals as goal

pub returns-in-Ok-true : goal.returns-in-Ok-true
returns-in-Ok-true g c =
    let was = g.V.Marked.view_state c.args.view.now in
    let now = g.V.Marked.view_state c.loop-act.view in
    let order = c.args.order.now in
    let at = rest_at order c.loop-act.act-index c.loop-act-test.true in
    let stands = subst (λ (ks : List ℕ). Stands c.args.acts.now was now order ks) at c.loop-act.invariant.stands in
    stands_yes c.args.acts.now was now (g.V.Marked.view_state c.enabled_at.new.view) order (drop (c.loop-act.act-index + 1) order) (get_or order c.loop-act.act-index 0)
    c.enabled_at.result stands (c.in-Ok-true.is ∙ ap Ok c.in-Ok-true.field-0-test) c.enabled_at.ensures

pub returns-in-Err : goal.returns-in-Err
returns-in-Err g c =
    let was = g.V.Marked.view_state c.args.view.now in
    let now = g.V.Marked.view_state c.loop-act.view in
    let order = c.args.order.now in
    let at = rest_at order c.loop-act.act-index c.loop-act-test.true in
    let stands = subst (λ (ks : List ℕ). Stands c.args.acts.now was now order ks) at c.loop-act.invariant.stands in
    stands_trap c.args.acts.now was now (g.V.Marked.view_state c.enabled_at.new.view) order (drop (c.loop-act.act-index + 1) order) (get_or order c.loop-act.act-index 0) c.in-Err.trap
    c.enabled_at.result stands c.in-Err.is c.enabled_at.ensures

pub loop-act-preserved : goal.loop-act-preserved
loop-act-preserved g c =
    let was = g.V.Marked.view_state c.args.view.now in
    let now = g.V.Marked.view_state c.loop-act.view in
    let order = c.args.order.now in
    let at = rest_at order c.loop-act.act-index c.loop-act-test.true in
    let stands = subst (λ (ks : List ℕ). Stands c.args.acts.now was now order ks) at c.loop-act.invariant.stands in
    record {
      stands =
          stands_more c.args.acts.now was now (g.V.Marked.view_state c.enabled_at.new.view) order (drop (c.loop-act.act-index + 1) order) (get_or order c.loop-act.act-index 0)
          c.enabled_at.result stands (c.in-Ok-false.is ∙ ap Ok c.in-Ok-false.field-0-test) c.enabled_at.ensures;
      places = c.enabled_at.ensures.meets.places ∙ c.loop-act.invariant.places;
    }

pub returns : goal.returns
returns g c =
    let order = c.args.order.now in
    stands_end c.args.acts.now (g.V.Marked.view_state c.args.view.now) (g.V.Marked.view_state c.loop-act.view) order (drop c.loop-act.act-index order) c.loop-act.invariant.stands
    (drop_all c.loop-act.act-index order c.loop-act-test.false)
