use Rattle.std.proofs.Common.{◌+◌, ◌-◌, ◌≤◌, length}
use Rattle.san_base.specs.Flow.{Takes}
use Rattle.san_base.proofs.source.take_all.Given as goal

abbrev pub invariant-turns : goal.invariant-turns
invariant-turns g l = record {
  few : length l.taken.items ≤ l.most + 1;
  later : g.S.Source.faults l.fn.source ≤ g.S.Source.faults l.source;
  taken : Takes (g.S.Source.left l.fn.source) (g.S.Source.left l.source) l.taken.items;
}

abbrev pub decreases-turns : goal.decreases-turns
decreases-turns g l = l.most + 1 - length l.taken.items
