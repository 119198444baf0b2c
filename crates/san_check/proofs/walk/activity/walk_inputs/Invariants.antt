use Rattle.std.proofs.Common.{◌≡◌, drop, map}
use Rattle.san_check.specs.walk.Entries.{joined}
use Rattle.san_check.specs.inner.Walks.{seen_all}
use Rattle.san_check.specs.walk.Activity.{input_entries}
use Rattle.san_check.proofs.walk.activity.walk_inputs.Given as goal

abbrev pub invariant-inputs : goal.invariant-inputs
invariant-inputs l = seen_all l.walk (joined (map (input_entries l.places) (drop l.input-index l.inputs))) ≡ seen_all l.fn.walk (joined (map (input_entries l.places) l.inputs))
