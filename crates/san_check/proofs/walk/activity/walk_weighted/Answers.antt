use Rattle.std.proofs.Common.{map}
use Rattle.san_check.specs.walk.Entries.{joined}
use Rattle.san_check.specs.inner.Walks.{seen_all}
use Rattle.san_check.specs.walk.Activity.{case_entries}
use Rattle.san_check.proofs.EntryLemmas.{list_goes_on}
use Rattle.san_check.proofs.walk.activity.walk_weighted.Goals as goal

pub cases-preserved : goal.cases-preserved
cases-preserved c =
    let f = case_entries c.args.places.now in
    list_goes_on f c.args.cases.now c.cases.case-index c.case-item.result c.cases.walk c.walk_case.new.walk (seen_all c.args.walk.now (joined (map f c.args.cases.now)))
    c.cases-test.true c.case-item.is c.walk_case.ensures c.cases.invariant
