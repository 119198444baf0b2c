use Rattle.std.proofs.Common.{arith, ◌≡◌, ◌∙◌, ◌+◌, ◌-◌, ◌<◌, ◌≤◌, ◌^◌, suc, ℕ, List, All, Option, None, ap, sym, subst}
use Rattle.std.proofs.lemmas.Grind.{common_steps}
use Rattle.san_draw.specs.Key.{draw_of}
use Rattle.san_leaf.specs.Blocks.{block_of, turn_of}
use Rattle.san_leaf.specs.inner.Turns.{CompletesOnce, MakesRecorded, TakesTurn}
use Rattle.san_leaf.specs.inner.ViewStates.{view_state_of}
use Rattle.san_leaf.specs.declared.block.Close.{Close}
use Rattle.san_leaf.proofs.TurnLemmas.{Stands, room_after, stands_end, stands_more}
use Rattle.san_leaf.proofs.block.settle.Goals as goal

pub returns-in-Some-clause-made : goal.returns-in-Some-clause-made
returns-in-Some-clause-made g c =
    let p = c.args.part.now in
    let i = c.turns.invariant in
    let draw = draw_of (g.D.DrawSource.seed c.args.draws.now) in
    let now = view_state_of c.turns.view in
    let new = view_state_of c.turn.new.view in
    let one : c.turns.left ≡ suc (c.turns.left - 1) = omega (arith, c.turns-test.true) in
    let turned : TakesTurn (turn_of draw p c.turns.row.cases) c.turns.recorder c.turn.new.recorder c.turns.row c.turn.new.row now new c.in_ok-close.field-0 =
    subst (λ (d : ℕ). TakesTurn (turn_of (draw_of d) p c.turns.row.cases) c.turns.recorder c.turn.new.recorder c.turns.row c.turn.new.row now new c.in_ok-close.field-0) (ap g.D.DrawSource.seed i.draws) c.in_ok-close.ensures.turned in
    let ends : (go : List ℕ → _) → MakesRecorded (turn_of draw p c.turns.row.cases go) c.turns.recorder c.turn.new.recorder c.turns.row c.turn.new.row now new c.in-Some.close =
    subst (λ (o : Option Close). TakesTurn (turn_of draw p c.turns.row.cases) c.turns.recorder c.turn.new.recorder c.turns.row c.turn.new.row now new o) c.in-Some.is turned in
    i.stands c.turn.new.recorder c.turn.new.row new c.in-Some.close
    (subst (λ (n : ℕ). MakesRecorded (block_of draw p n c.turns.row.cases) c.turns.recorder c.turn.new.recorder c.turns.row c.turn.new.row now new c.in-Some.close) (sym one) (ends (block_of draw p (c.turns.left - 1))))

pub turns-preserved : goal.turns-preserved
turns-preserved g c =
    let p = c.args.part.now in
    let i = c.turns.invariant in
    let k = c.in_ok-close.ensures in
    let draw = draw_of (g.D.DrawSource.seed c.args.draws.now) in
    let old = view_state_of c.args.view.now in
    let now = view_state_of c.turns.view in
    let new = view_state_of c.turn.new.view in
    let one : c.turns.left ≡ suc (c.turns.left - 1) = omega (arith, c.turns-test.true) in
    let none : c.in_ok-close.field-0 ≡ None = grind (arith, common_steps) in
    let goes : CompletesOnce (turn_of draw p c.turns.row.cases) c.turns.recorder c.turn.new.recorder c.turns.row c.turn.new.row now new =
    subst (λ (o : Option Close). TakesTurn (turn_of draw p c.turns.row.cases) c.turns.recorder c.turn.new.recorder c.turns.row c.turn.new.row now new o) none
    (subst (λ (d : ℕ). TakesTurn (turn_of (draw_of d) p c.turns.row.cases) c.turns.recorder c.turn.new.recorder c.turns.row c.turn.new.row now new c.in_ok-close.field-0) (ap g.D.DrawSource.seed i.draws) k.turned) in
    let room = room_after (turn_of draw p c.turns.row.cases) c.turns.recorder c.turn.new.recorder c.turns.row c.turn.new.row now new goes in
    let numbers = below c.turns.left c.turns.row.cases i.numbers c.turns-test.true in
    record {
      stands = stands_more draw p c.args.most (c.turns.left - 1) c.args.recorder.now c.turns.recorder c.turn.new.recorder c.args.row.now c.turns.row c.turn.new.row old now new
          (subst (λ (n : ℕ). Stands draw p c.args.most n c.args.recorder.now c.turns.recorder c.args.row.now c.turns.row old now) one i.stands) goes;
      held = k.held ∙ i.held ∙ sym k.places;
      cells = k.places ∙ i.cells;
      cases = k.cases ∙ i.cases;
      numbers = λ j d l. let b = k.numbers (2 ^ 40 - 1 - c.turns.left) numbers j d l in omega (arith, b, c.turns-test.true, i.room);
      room = omega (arith, room.0, i.room, c.turns-test.true);
      none = room.1;
      draws = k.draws ∙ i.draws;
      kept = k.kept ∙ i.kept;
      places = k.places ∙ i.places;
    }
  where
    below : (left : ℕ) (cases : List ℕ) → All (λ n. n + left < 2 ^ 40) cases → 0 < left → All (λ n. n ≤ 2 ^ 40 - 1 - left) cases
    below left cases h pos j d l = let b = h j d l in omega (arith, b)

pub returns-clause-made : goal.returns-clause-made
returns-clause-made g c =
    let i = c.turns.invariant in
    let draw = draw_of (g.D.DrawSource.seed c.args.draws.now) in
    let zero : c.turns.left ≡ 0 = omega (arith, c.turns-test.false) in
    stands_end draw c.args.part.now c.args.most c.args.recorder.now c.turns.recorder c.args.row.now c.turns.row (view_state_of c.args.view.now) (view_state_of c.turns.view)
    (subst (λ (n : ℕ). Stands draw c.args.part.now c.args.most n c.args.recorder.now c.turns.recorder c.args.row.now c.turns.row (view_state_of c.args.view.now) (view_state_of c.turns.view)) zero i.stands) i.none
