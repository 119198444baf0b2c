use Rattle.std.proofs.Common.{◌≡◌, ◌≤◌, drop, length, map}
use Rattle.san_book.specs.Nets.{shared_in}
use Rattle.san_book.specs.Plans.{next_version}
use Rattle.san_net.specs.Leaf.{slot_in}
use Rattle.san_ahead.specs.Aheads.{line_in}
use Rattle.san_ahead.proofs.next.next_version.Given as goal

abbrev pub invariant-cells : goal.invariant-cells
invariant-cells l = record {
  within : l.at ≤ length l.slots;
  least : l.least ≡ next_version (map line_in l.lines) l.leaf.0 l.after.0 (shared_in (map slot_in (drop l.at l.slots)));
}

abbrev pub decreases-cells : goal.decreases-cells
decreases-cells l = l.at
