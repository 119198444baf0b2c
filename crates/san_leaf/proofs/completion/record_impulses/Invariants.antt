use Rattle.std.proofs.Common.{◌≡◌, drop}
use Rattle.san_leaf.specs.inner.ViewStates.{view_state_of}
use Rattle.san_leaf.proofs.ImpulseLemmas.{Stands}
use Rattle.san_leaf.proofs.completion.record_impulses.Given as goal

abbrev pub invariant-loop-at : goal.invariant-loop-at
invariant-loop-at g l =
    record {
      stands : Stands l.act l.fn.recorder l.recorder (view_state_of l.fn.view) (view_state_of l.view) l.terms (drop l.at l.terms);
      kept : (view_state_of l.view).kept ≡ (view_state_of l.fn.view).kept;
      places : (view_state_of l.view).places ≡ (view_state_of l.fn.view).places;
    }
