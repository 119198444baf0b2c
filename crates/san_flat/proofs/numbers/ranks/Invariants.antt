use Rattle.std.proofs.Common.{◌≡◌, ◌+◌, ◌≤◌, ◌++◌, drop}
use Rattle.san_net.specs.Numbering.{ranked}
use Rattle.san_flat.proofs.numbers.ranks.Given as goal

abbrev pub invariant-counts : goal.invariant-counts
invariant-counts l =
    record {
      sofar : l.numbers.items ++ ranked l.next_shared l.next_private (drop l.count-index l.counts) ≡ ranked 0 l.shared l.counts;
      low : l.next_shared ≤ l.count-index;
      high : l.next_private ≤ l.shared + l.count-index;
    }
