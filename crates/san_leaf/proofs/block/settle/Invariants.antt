use Rattle.std.proofs.Common.{◌≡◌, ◌≤◌, ◌<◌, ◌+◌, ◌^◌, [], All, length}
use Rattle.san_draw.specs.Key.{draw_of}
use Rattle.san_leaf.specs.inner.ViewStates.{view_state_of}
use Rattle.san_leaf.proofs.TurnLemmas.{Stands}
use Rattle.san_leaf.proofs.block.settle.Given as goal

abbrev pub invariant-turns : goal.invariant-turns
invariant-turns g l =
    record {
      stands : Stands (draw_of (g.D.DrawSource.seed l.fn.draws)) l.part l.most l.left l.fn.recorder l.recorder l.fn.row l.row (view_state_of l.fn.view) (view_state_of l.view);
      held : length l.held ≡ length l.view.places;
      cells : length l.view.places ≡ length l.part.atomic.initial;
      cases : length l.row.cases ≡ length l.part.atomic.acts;
      numbers : All (λ n. n + l.left < 2 ^ 40) l.row.cases;
      room : length l.recorder.completions + l.left ≤ 64;
      none : l.recorder.pending ≡ [];
      draws : l.draws ≡ l.fn.draws;
      kept : (view_state_of l.view).kept ≡ (view_state_of l.fn.view).kept;
      places : (view_state_of l.view).places ≡ (view_state_of l.fn.view).places;
    }

abbrev pub decreases-turns : goal.decreases-turns
decreases-turns g l = l.left
