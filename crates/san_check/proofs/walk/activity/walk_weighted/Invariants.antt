use Rattle.std.proofs.Common.{◌≡◌, drop, map}
use Rattle.san_check.specs.walk.Entries.{joined}
use Rattle.san_check.specs.inner.Walks.{seen_all}
use Rattle.san_check.specs.walk.Activity.{case_entries}
use Rattle.san_check.proofs.walk.activity.walk_weighted.Given as goal

abbrev pub invariant-cases : goal.invariant-cases
invariant-cases l = seen_all l.walk (joined (map (case_entries l.places) (drop l.case-index l.cases))) ≡ seen_all l.fn.walk (joined (map (case_entries l.places) l.cases))
