use Rattle.std.proofs.Common.{◌≡◌, take}
use Rattle.san_plain.specs.Measures.{worths_from}
use Rattle.san_report.specs.Closings.{worths_by}
use Rattle.san_plain.proofs.measured.put_worths.Given as goal

abbrev pub invariant-each : goal.invariant-each
invariant-each l = l.worths.items ≡ worths_from (take l.at l.flat.rewards) 0 (worths_by l.tally l.ending)
