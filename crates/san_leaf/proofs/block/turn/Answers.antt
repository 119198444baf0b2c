use Rattle.std.proofs.Common.{◌<◌, ℕ, IsTrue, Ok, sym, subst, length}
use Rattle.std.proofs.lemmas.Result.{IfOk-weaker}
use Rattle.san_draw.specs.Key.{draw_of}
use Rattle.san_net.specs.Below.{acts_below}
use Rattle.san_net.specs.First.{first_of}
use Rattle.san_net.specs.declared.atomic.Atomic.{Atomic}
use Rattle.san_net.proofs.FirstLemmas.{accepted_below}
use Rattle.san_expr.specs.Meets.{Evaluates}
use Rattle.san_leaf.specs.Blocks.{done_of, turn_of}
use Rattle.san_leaf.specs.inner.Turns.{TakesTurn}
use Rattle.san_leaf.specs.inner.ViewStates.{view_state_of}
use Rattle.san_leaf.proofs.FoundLemmas.{enabled_within, trapped_within}
use Rattle.san_leaf.proofs.TurnLemmas.{fails_test, found_turns, rests}
use Rattle.san_leaf.proofs.block.turn.Goals as goal

pub first_found-requires : goal.first_found-requires
first_found-requires g c =
    subst (λ (a : Atomic). IsTrue (acts_below a.acts (length c.args.view.now.places))) (sym c.get.ensures)
    (subst (λ (n : ℕ). IsTrue (acts_below c.args.part.now.atomic.acts n)) (sym c.requires.cells) (accepted_below c.args.part.now.atomic c.requires.accepted))

pub complete_next-requires-clause-act : goal.complete_next-requires-clause-act
complete_next-requires-clause-act g c =
    subst (λ (a : Atomic). c.in-Enabled.act < length a.acts) c.get.ensures (enabled_within (length c.get.result.now.acts) c.in-Enabled.act c.first_found.result c.in-Enabled.is c.first_found.ensures.within)

pub returns-in-Trapped-clause-within : goal.returns-in-Trapped-clause-within
returns-in-Trapped-clause-within g c =
    subst (λ (a : Atomic). c.in-Trapped.act < length a.acts) c.get.ensures (trapped_within (length c.get.result.now.acts) c.in-Trapped.act c.in-Trapped.trap c.first_found.result c.in-Trapped.is c.first_found.ensures.within)

pub returns-in-None-clause-turned : goal.returns-in-None-clause-turned
returns-in-None-clause-turned g c =
    let p = c.args.part.now in
    let old = view_state_of c.args.view.now in
    let mid = view_state_of c.first_found.new.view in
    let first : Evaluates old mid (first_of p.atomic) (Ok c.first_found.result) = subst (λ (a : Atomic). Evaluates old mid (first_of a) (Ok c.first_found.result)) c.get.ensures c.first_found.ensures.first in
    rests (draw_of (g.D.DrawSource.seed c.args.draws.now)) p c.args.recorder.now c.args.row.now old mid c.first_found.result first c.in-None.is c.requires.none

pub returns-in-Trapped-clause-turned : goal.returns-in-Trapped-clause-turned
returns-in-Trapped-clause-turned g c =
    let p = c.args.part.now in
    let old = view_state_of c.args.view.now in
    let mid = view_state_of c.first_found.new.view in
    let first : Evaluates old mid (first_of p.atomic) (Ok c.first_found.result) = subst (λ (a : Atomic). Evaluates old mid (first_of a) (Ok c.first_found.result)) c.get.ensures c.first_found.ensures.first in
    fails_test (draw_of (g.D.DrawSource.seed c.args.draws.now)) p c.args.recorder.now c.args.row.now old mid c.first_found.result first c.in-Trapped.act c.in-Trapped.trap c.in-Trapped.is c.requires.none

pub returns-in-Enabled-clause-turned : goal.returns-in-Enabled-clause-turned
returns-in-Enabled-clause-turned g c =
    let p = c.args.part.now in
    let old = view_state_of c.args.view.now in
    let mid = view_state_of c.first_found.new.view in
    let new = view_state_of c.complete_next.new.view in
    let draw = draw_of (g.D.DrawSource.seed c.args.draws.now) in
    let first : Evaluates old mid (first_of p.atomic) (Ok c.first_found.result) = subst (λ (a : Atomic). Evaluates old mid (first_of a) (Ok c.first_found.result)) c.get.ensures c.first_found.ensures.first in
    IfOk-weaker c.complete_next.result (TakesTurn (done_of draw p c.in-Enabled.act c.args.row.now.cases) c.args.recorder.now c.complete_next.new.recorder c.args.row.now c.complete_next.new.row mid new)
    (TakesTurn (turn_of draw p c.args.row.now.cases) c.args.recorder.now c.complete_next.new.recorder c.args.row.now c.complete_next.new.row old new)
    (λ o turned. found_turns draw p c.args.recorder.now c.args.row.now old mid c.first_found.result first c.in-Enabled.act c.complete_next.new.recorder c.complete_next.new.row new o c.in-Enabled.is turned) c.complete_next.ensures.turned
