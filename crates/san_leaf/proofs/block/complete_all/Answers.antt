use Rattle.std.proofs.Common.{ℕ, Option, sym, subst}
use Rattle.san_draw.specs.Key.{draw_of}
use Rattle.san_leaf.specs.Blocks.{made_of}
use Rattle.san_leaf.specs.inner.Turns.{MakesRecorded}
use Rattle.san_leaf.specs.inner.ViewStates.{view_state_of}
use Rattle.std.specs.Prelude.{IfOk}
use Rattle.san_leaf.proofs.block.complete_all.Goals as goal

pub returns-in-None-clause-made : goal.returns-in-None-clause-made
returns-in-None-clause-made g c =
    subst (λ (o : Option ℕ). IfOk c.settle.result (MakesRecorded (made_of (draw_of (g.D.DrawSource.seed c.args.draws.now)) c.args.part.now o c.args.row.now.cases) c.args.recorder.now c.settle.new.recorder c.args.row.now c.settle.new.row (view_state_of c.args.view.now) (view_state_of c.settle.new.view)))
    (sym c.in-None.is) c.settle.ensures.made

pub returns-in-Some-clause-made : goal.returns-in-Some-clause-made
returns-in-Some-clause-made g c =
    subst (λ (o : Option ℕ). IfOk c.fire.result (MakesRecorded (made_of (draw_of (g.D.DrawSource.seed c.args.draws.now)) c.args.part.now o c.args.row.now.cases) c.args.recorder.now c.fire.new.recorder c.args.row.now c.fire.new.row (view_state_of c.args.view.now) (view_state_of c.fire.new.view)))
    (sym c.in-Some.is) c.fire.ensures.made
