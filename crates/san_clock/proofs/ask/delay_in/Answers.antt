use Rattle.std.proofs.Common.{IsTrue, sym, subst}
use Rattle.san_expr.specs.View.{ViewState}
use Rattle.san_expr.specs.Below.{dist_below}
use Rattle.san_clock.proofs.AskLemmas.{delay_is}
use Rattle.san_clock.proofs.ask.delay_in.Goals as goal

pub delay-requires-clause-places : goal.delay-requires-clause-places
delay-requires-clause-places g c = subst (λ (s : ViewState). IsTrue (dist_below c.args.delay.now s.places)) (sym (g.met.V.PlainView.shows c.args.view.now)) c.requires.places

pub returns : goal.returns
returns g c =
    let is = delay_is (g.V.Marked.view_state c.args.view.now) (g.V.Marked.view_state c.delay.new.view) (g.V.PlainView.values c.args.view.now) (g.V.PlainView.values c.delay.new.view)
    (g.met.V.PlainView.shows c.args.view.now) (g.met.V.PlainView.shows c.delay.new.view) c.args.delay.now c.args.u c.delay.result c.delay.ensures.value in
    record { answer = is.0; within = c.delay.ensures.within; same = is.1 }
