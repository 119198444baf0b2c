use Rattle.std.proofs.Common.{◌↔◌, drop}
use Rattle.san_log.specs.Logs.{AreEntriesOf}
use Rattle.san_log.proofs.log.agree.Given as goal

abbrev pub invariant-next : goal.invariant-next
invariant-next l = AreEntriesOf l.entries l.shared ↔ AreEntriesOf (drop l.entry-index l.entries) l.shared
