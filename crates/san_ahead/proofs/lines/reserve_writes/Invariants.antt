use Rattle.std.proofs.Common.{ℕ, ◌<◌, ◌≡◌, drop, length, map}
use Rattle.san_book.specs.Lines.{AreWrites}
use Rattle.san_leaf.specs.States.{pair_in}
use Rattle.san_ahead.specs.Aheads.{line_in, written_line}
use Rattle.san_ahead.proofs.lines.reserve_writes.Given as goal

abbrev pub invariant-written : goal.invariant-written
invariant-written l = record {
  same : map line_in l.lines ≡ map line_in l.initial.lines;
  fit : AreWrites (length l.lines) (map pair_in (drop l.write-index l.writes));
  room : (i : ℕ) → i < l.write-index → 0 < (written_line l.lines l.writes i).spare;
}
