use Rattle.san_leaf.proofs.SameLemmas.{rows_alike}
use Rattle.san_leaf.proofs.same.same_row.Goals as goal

pub returns : goal.returns
returns c =
    let cases = c.all_same.ensures.0 c.if-not-all_same.false in
    let delays = c.all_same-2.ensures.0 c.if-not-all_same-2.false in
    let alike = rows_alike c.args.a.now c.args.b.now c.cases.result.now c.cases-2.result.now c.delays.result.now c.delays-2.result.now c.timers.result.now c.timers-2.result.now
    c.cases.ensures c.cases-2.ensures c.delays.ensures c.delays-2.ensures c.timers.ensures c.timers-2.ensures cases delays in
    (λ e. alike.0 (c.same_timers.ensures.0 e), λ e. c.same_timers.ensures.1 (alike.1 e))
