use Rattle.std.proofs.Common.{◌≡◌, ◌++◌, drop, map}
use Rattle.san_check.specs.build.Activity.{input_of}
use Rattle.san_check.proofs.build.activity.inputs_of.Given as goal

abbrev pub invariant-inputs : goal.invariant-inputs
invariant-inputs l = l.made.items ++ map (input_of l.cells) (drop l.input-index l.inputs) ≡ map (input_of l.cells) l.inputs
