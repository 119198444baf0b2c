use Rattle.std.proofs.Common.{◌≡◌, ◌++◌, drop, map}
use Rattle.san_check.specs.build.Activity.{output_of}
use Rattle.san_check.proofs.build.activity.outputs_of.Given as goal

abbrev pub invariant-outputs : goal.invariant-outputs
invariant-outputs l = l.made.items ++ map (output_of l.cells) (drop l.output-index l.outputs) ≡ map (output_of l.cells) l.outputs
