use Rattle.std.proofs.Common.{arith, ◌-◌, ◌^◌, ◌≤◌, ◌<◌, ℕ, List, All, Option, subst}
use Rattle.std.proofs.lemmas.Result.{IfOk-weaker}
use Rattle.san_draw.specs.Key.{draw_of}
use Rattle.san_leaf.specs.Blocks.{block_of, done_of, fired_of}
use Rattle.san_leaf.specs.inner.Turns.{CompletesOnce, MakesRecorded, TakesTurn}
use Rattle.san_leaf.specs.inner.ViewStates.{view_state_of}
use Rattle.san_leaf.specs.declared.block.Close.{Close}
use Rattle.san_leaf.proofs.TurnLemmas.{goes_then}
use Rattle.san_leaf.proofs.block.fire.Goals as goal

pub settle-requires-clause-numbers : goal.settle-requires-clause-numbers
settle-requires-clause-numbers g c = λ k d lt.
    let b = c.complete_next.ensures.numbers (2 ^ 39 - 1) (below c.args.row.now.cases c.requires.numbers) k d lt in omega (arith, b)
  where
    below : (cases : List ℕ) → All (λ n. n < 2 ^ 39) cases → All (λ n. n ≤ 2 ^ 39 - 1) cases
    below cases h j d l = let b = h j d l in omega (arith, b)

pub returns-in-Some-clause-made : goal.returns-in-Some-clause-made
returns-in-Some-clause-made g c =
    let p = c.args.part.now in
    let draw = draw_of (g.D.DrawSource.seed c.args.draws.now) in
    let old = view_state_of c.args.view.now in
    let new = view_state_of c.complete_next.new.view in
    let ends : (go : List ℕ → _) → MakesRecorded (done_of draw p c.args.act c.args.row.now.cases go) c.args.recorder.now c.complete_next.new.recorder c.args.row.now c.complete_next.new.row old new c.in-Some.close =
    subst (λ (o : Option Close). TakesTurn (done_of draw p c.args.act c.args.row.now.cases) c.args.recorder.now c.complete_next.new.recorder c.args.row.now c.complete_next.new.row old new o) c.in-Some.is c.in_ok-close.ensures.turned in
    ends (block_of draw p 63)

pub returns-in-None-clause-made : goal.returns-in-None-clause-made
returns-in-None-clause-made g c =
    let p = c.args.part.now in
    let draw = draw_of (g.D.DrawSource.seed c.args.draws.now) in
    let old = view_state_of c.args.view.now in
    let mid = view_state_of c.complete_next.new.view in
    let new = view_state_of c.settle.new.view in
    let row = c.args.row.now in
    let next = c.complete_next.new.row in
    let goes : CompletesOnce (done_of draw p c.args.act row.cases) c.args.recorder.now c.complete_next.new.recorder row next old mid =
    subst (λ (o : Option Close). TakesTurn (done_of draw p c.args.act row.cases) c.args.recorder.now c.complete_next.new.recorder row next old mid o) c.in-None.is c.in_ok-close.ensures.turned in
    IfOk-weaker c.settle.result (MakesRecorded (block_of (draw_of (g.D.DrawSource.seed c.complete_next.new.draws)) p 63 next.cases) c.complete_next.new.recorder c.settle.new.recorder next c.settle.new.row mid new)
    (MakesRecorded (fired_of draw p c.args.act row.cases) c.args.recorder.now c.settle.new.recorder row c.settle.new.row old new)
    (λ end m. goes_then (done_of draw p c.args.act row.cases) (block_of draw p 63) c.args.recorder.now c.complete_next.new.recorder c.settle.new.recorder row next c.settle.new.row old mid new end goes
    (subst (λ d. MakesRecorded (block_of (draw_of (g.D.DrawSource.seed d)) p 63 next.cases) c.complete_next.new.recorder c.settle.new.recorder next c.settle.new.row mid new end) c.complete_next.ensures.draws m)) c.settle.ensures.made
