use Rattle.std.proofs.Common.{IsTrue, sym, subst}
use Rattle.san_expr.specs.View.{ViewState}
use Rattle.san_net.specs.Below.{activity_below}
use Rattle.san_clock.proofs.AskLemmas.{enabled_is}
use Rattle.san_clock.proofs.ask.is_enabled.Goals as goal

pub enabled-requires : goal.enabled-requires
enabled-requires g c = subst (λ (s : ViewState). IsTrue (activity_below c.args.activity.now s.places)) (sym (g.met.V.PlainView.shows c.args.view.now)) c.requires

pub returns : goal.returns
returns g c =
    let is = enabled_is (g.V.Marked.view_state c.args.view.now) (g.V.Marked.view_state c.enabled.new.view) (g.V.PlainView.values c.args.view.now) (g.V.PlainView.values c.enabled.new.view)
    (g.met.V.PlainView.shows c.args.view.now) (g.met.V.PlainView.shows c.enabled.new.view) c.args.activity.now c.enabled.result c.enabled.ensures in
    record { answer = is.0; same = is.1 }
