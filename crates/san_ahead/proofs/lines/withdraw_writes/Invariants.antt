use Rattle.std.proofs.Common.{◌≡◌, drop, length, map}
use Rattle.san_book.specs.Lines.{AreWrites, each, withdraw}
use Rattle.san_leaf.specs.States.{pair_in}
use Rattle.san_ahead.specs.Aheads.{line_in}
use Rattle.san_ahead.proofs.lines.withdraw_writes.Given as goal

abbrev pub invariant-written : goal.invariant-written
invariant-written l = record {
  rest : each (withdraw l.leaf.0 l.pos) (map pair_in (drop l.write-index l.writes)) (map line_in l.lines) ≡ each (withdraw l.leaf.0 l.pos) (map pair_in l.writes) (map line_in l.initial.lines);
  fit : AreWrites (length l.lines) (map pair_in (drop l.write-index l.writes));
}
