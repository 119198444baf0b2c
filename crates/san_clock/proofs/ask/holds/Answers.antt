use Rattle.std.proofs.Common.{IsTrue, ◌∙◌, ap, sym, subst}
use Rattle.san_expr.specs.View.{ViewState}
use Rattle.san_expr.specs.Below.{places_below}
use Rattle.san_net.specs.Leaf.{answer_by}
use Rattle.san_clock.proofs.AskLemmas.{truth_is}
use Rattle.san_clock.proofs.ask.holds.Goals as goal

pub eval-requires : goal.eval-requires
eval-requires g c = subst (λ (s : ViewState). IsTrue (places_below c.args.e.now s.places)) (sym (g.met.V.PlainView.shows c.args.view.now)) c.requires

pub returns : goal.returns
returns g c =
    let is = truth_is (g.V.Marked.view_state c.args.view.now) (g.V.Marked.view_state c.eval.new.view) (g.V.PlainView.values c.args.view.now) (g.V.PlainView.values c.eval.new.view)
    (g.met.V.PlainView.shows c.args.view.now) (g.met.V.PlainView.shows c.eval.new.view) c.args.e.now c.eval.result c.eval.ensures in
    record { answer = ap answer_by c.truth.ensures ∙ is.0; same = is.1 }
