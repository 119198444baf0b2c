use Rattle.std.proofs.Common.{◌≡◌, ◌∙◌, List, ap, subst}
use Rattle.san_draw.specs.Key.{draw_of}
use Rattle.san_net.specs.declared.atomic.Atomic.{Atomic}
use Rattle.san_net.specs.declared.atomic.ImpulseTerm.{ImpulseTerm}
use Rattle.san_leaf.specs.inner.ViewStates.{view_state_of}
use Rattle.san_leaf.specs.inner.Impulses.{Records}
use Rattle.san_leaf.proofs.TurnLemmas.{fails_done, goes_on}
use Rattle.san_leaf.proofs.block.complete_next.Goals as goal

pub returns-in-Err-clause-turned : goal.returns-in-Err-clause-turned
returns-in-Err-clause-turned g c =
    fails_done (draw_of (g.D.DrawSource.seed c.args.draws.now)) c.args.part.now c.args.recorder.now c.args.row.now (view_state_of c.args.view.now) (view_state_of c.complete_or_back.new.view) c.args.act c.complete_or_back.result c.complete_or_back.ensures.meets
    c.in-Err.trap c.complete_or_back.new.row c.in-Err.is c.requires.none c.complete_or_back.ensures.row

pub returns-in_ok-event-in-Ok-clause-turned : goal.returns-in_ok-event-in-Ok-clause-turned
returns-in_ok-event-in-Ok-clause-turned g c =
    let p = c.args.part.now in
    let mid = view_state_of c.complete_or_back.new.view in
    let last = view_state_of c.record_impulses.new.view in
    let terms : c.as_slice-terms.result.now ≡ p.atomic.impulses = c.as_slice-terms.ensures ∙ ap (λ (a : Atomic). a.impulses) c.get.ensures in
    let recorded : Records c.args.recorder.now c.record_impulses.new.recorder mid last c.args.act p.atomic.impulses = subst (λ (ts : List ImpulseTerm). Records c.args.recorder.now c.record_impulses.new.recorder mid last c.args.act ts) terms c.in_ok-record_impulses-in-Ok.ensures.recorded in
    goes_on (draw_of (g.D.DrawSource.seed c.args.draws.now)) p c.args.recorder.now c.args.row.now (view_state_of c.args.view.now) mid c.args.act c.complete_or_back.result c.complete_or_back.ensures.meets
    c.in-Ok.case last c.record_impulses.new.recorder c.event.new.self c.complete_or_back.new.row c.in-Ok.is c.requires.none c.complete_or_back.ensures.row recorded c.in_ok-event-in-Ok.ensures
