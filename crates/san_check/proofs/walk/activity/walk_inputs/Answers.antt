use Rattle.std.proofs.Common.{map}
use Rattle.san_check.specs.walk.Entries.{joined}
use Rattle.san_check.specs.inner.Walks.{seen_all}
use Rattle.san_check.specs.walk.Activity.{input_entries}
use Rattle.san_check.proofs.EntryLemmas.{list_goes_on}
use Rattle.san_check.proofs.walk.activity.walk_inputs.Goals as goal

pub inputs-preserved : goal.inputs-preserved
inputs-preserved c =
    let f = input_entries c.args.places.now in
    list_goes_on f c.args.inputs.now c.inputs.input-index c.input-item.result c.inputs.walk c.walk_input.new.walk (seen_all c.args.walk.now (joined (map f c.args.inputs.now)))
    c.inputs-test.true c.input-item.is c.walk_input.ensures c.inputs.invariant
