use Rattle.std.proofs.Common.{◌≡◌, drop}
use Rattle.san_log.specs.Logs.{find}
use Rattle.san_log.proofs.log.value_of.Given as goal

abbrev pub invariant-find : goal.invariant-find
invariant-find l = find l.place.0 l.entries ≡ find l.place.0 (drop l.entry-index l.entries)
