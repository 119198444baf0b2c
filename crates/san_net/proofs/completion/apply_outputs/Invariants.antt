use Rattle.std.proofs.Common.{◌≡◌, IsTrue, drop}
use Rattle.san_net.specs.Below.{outputs_below}
use Rattle.san_net.specs.Completion.{output_of}
use Rattle.san_net.proofs.TurnLemmas.{Stands}
use Rattle.san_net.proofs.completion.apply_outputs.Given as goal

abbrev pub invariant-loop-output : goal.invariant-loop-output
invariant-loop-output g l =
    let was = g.V.Marked.view_state l.fn.view in
    record {
      stands : Stands output_of was (g.V.Marked.view_state l.view) l.outputs (drop l.output-index l.outputs);
      places : (g.V.Marked.view_state l.view).places ≡ was.places;
      below : IsTrue (outputs_below (drop l.output-index l.outputs) was.places);
    }
