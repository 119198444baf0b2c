use Rattle.std.proofs.Common.{◌≡◌, drop}
use Rattle.san_check.specs.inner.Walks.{seen_all}
use Rattle.san_check.specs.walk.Activity.{table_entries}
use Rattle.san_check.proofs.walk.activity.walk_table.Given as goal

abbrev pub invariant-entries : goal.invariant-entries
invariant-entries l = seen_all l.walk (table_entries l.n l.sum (drop l.n l.entries)) ≡ seen_all l.fn.walk (table_entries 0 0 l.entries)
