use Rattle.std.proofs.Common.{◌≡◌, IsTrue, drop}
use Rattle.san_net.specs.Below.{inputs_below}
use Rattle.san_net.proofs.EnabledLemmas.{Stands}
use Rattle.san_net.proofs.predicate.all_hold.Given as goal

abbrev pub invariant-loop-input : goal.invariant-loop-input
invariant-loop-input g l =
    let was = g.V.Marked.view_state l.fn.view in
    record {
      stands : Stands was (g.V.Marked.view_state l.view) l.inputs (drop l.input-index l.inputs);
      places : (g.V.Marked.view_state l.view).places ≡ was.places;
      below : IsTrue (inputs_below (drop l.input-index l.inputs) was.places);
    }
