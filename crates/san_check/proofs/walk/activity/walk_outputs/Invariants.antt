use Rattle.std.proofs.Common.{◌≡◌, drop}
use Rattle.san_check.specs.inner.Walks.{seen_all}
use Rattle.san_check.specs.walk.Activity.{outputs_entries}
use Rattle.san_check.proofs.walk.activity.walk_outputs.Given as goal

abbrev pub invariant-outputs : goal.invariant-outputs
invariant-outputs l = seen_all l.walk (outputs_entries l.places (drop l.output-index l.outputs)) ≡ seen_all l.fn.walk (outputs_entries l.places l.outputs)
