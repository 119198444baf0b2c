use Rattle.std.proofs.Common.{◌≡◌, drop}
use Rattle.san_net.specs.Below.{inputs_below}
use Rattle.san_net.proofs.below.inputs_below.Given as goal

abbrev pub invariant-loop-input : goal.invariant-loop-input
invariant-loop-input l = inputs_below l.inputs l.places ≡ inputs_below (drop l.input-index l.inputs) l.places
