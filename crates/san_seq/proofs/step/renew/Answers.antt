use Rattle.std.proofs.Common.{◌∙◌, sym, ap, subst, List}
use Rattle.san_draw.specs.Key.{draw_of}
use Rattle.san_law.specs.Net.{Row}
use Rattle.san_law.specs.Renewal.{renewed_from}
use Rattle.san_law.specs.State.{State}
use Rattle.san_net.specs.Network.{net_of}
use Rattle.san_seq.specs.inner.Rows.{AreDrawn}
use Rattle.san_seq.proofs.step.renew.Goals as goal

pub returns-clause-rows : goal.returns-clause-rows
returns-clause-rows c = λ bounds.
    let was = ap (λ (x : State). x.rows) c.state.view_is in
    c.renew_rows.ensures.rows bounds c.args.state.now (sym (ap (λ (x : State). x.time) c.state.view_is)) (sym (ap (λ (x : State). x.stable) c.state.view_is) ∙ sym c.as_slice.ensures.value) (sym (ap (λ (x : State). x.marking) c.state.view_is) ∙ sym c.as_slice-2.ensures.value)
    ∙ ap (λ (rs : List Row). renewed_from (net_of c.args.flat.now (draw_of c.args.streams.now.seed) bounds) c.args.state.now 0 rs) was

pub returns-clause-numbers : goal.returns-clause-numbers
returns-clause-numbers c =
    let was = ap (λ (x : State). x.rows) c.state.view_is in
    c.renew_rows.ensures.numbers c.args.state.now.count (subst (λ (rs : List Row). AreDrawn c.args.state.now.count rs) (sym was) c.requires.numbers)
