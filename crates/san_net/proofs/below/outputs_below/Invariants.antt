use Rattle.std.proofs.Common.{◌≡◌, drop}
use Rattle.san_net.specs.Below.{outputs_below}
use Rattle.san_net.proofs.below.outputs_below.Given as goal

abbrev pub invariant-loop-output : goal.invariant-loop-output
invariant-loop-output l = outputs_below l.outputs l.places ≡ outputs_below (drop l.output-index l.outputs) l.places
