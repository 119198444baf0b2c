use Rattle.std.proofs.Common.{◌≡◌, IsTrue, drop}
use Rattle.san_net.specs.Below.{inputs_below}
use Rattle.san_net.specs.Completion.{function_of}
use Rattle.san_net.proofs.TurnLemmas.{Stands}
use Rattle.san_net.proofs.completion.apply_inputs.Given as goal

abbrev pub invariant-loop-input : goal.invariant-loop-input
invariant-loop-input g l =
    let was = g.V.Marked.view_state l.fn.view in
    record {
      stands : Stands function_of was (g.V.Marked.view_state l.view) l.inputs (drop l.input-index l.inputs);
      places : (g.V.Marked.view_state l.view).places ≡ was.places;
      below : IsTrue (inputs_below (drop l.input-index l.inputs) was.places);
    }
