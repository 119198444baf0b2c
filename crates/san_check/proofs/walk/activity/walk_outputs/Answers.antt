use Rattle.std.proofs.Common.{map}
use Rattle.san_check.specs.walk.Entries.{joined}
use Rattle.san_check.specs.inner.Walks.{seen_all}
use Rattle.san_check.specs.walk.Activity.{output_entries}
use Rattle.san_check.proofs.EntryLemmas.{list_goes_on}
use Rattle.san_check.proofs.walk.activity.walk_outputs.Goals as goal

pub outputs-preserved : goal.outputs-preserved
outputs-preserved c =
    let f = output_entries c.args.places.now in
    list_goes_on f c.args.outputs.now c.outputs.output-index c.output-item.result c.outputs.walk c.walk_output.new.walk (seen_all c.args.walk.now (joined (map f c.args.outputs.now)))
    c.outputs-test.true c.output-item.is c.walk_output.ensures c.outputs.invariant
