use Rattle.std.proofs.Common.{◌≡◌, ◌≤◌, take, length}
use Rattle.san_line.specs.Lines.{value_at}
use Rattle.san_line.proofs.line.last_seen.Given as goal

abbrev pub invariant-back : goal.invariant-back
invariant-back l = (value_at l.stamp l.committed l.versions ≡ value_at l.stamp l.committed (take l.at l.versions)) × (l.at ≤ length l.versions)

abbrev pub decreases-back : goal.decreases-back
decreases-back l = l.at
