use Rattle.std.proofs.Common.{ℕ, ◌≤◌, ◌<◌, ◌≡◌, drop, length, map, None}
use Rattle.san_line.specs.Lines.{find}
use Rattle.san_book.specs.Lines.{AreWrites, each, put}
use Rattle.san_leaf.specs.States.{pair_in}
use Rattle.san_ahead.specs.Aheads.{line_in, written_line}
use Rattle.san_ahead.proofs.lines.put_writes.Given as goal

abbrev pub invariant-written : goal.invariant-written
invariant-written l = record {
  rest : each (put l.time.0 l.leaf.0 l.pos) (map pair_in (drop l.write-index l.writes)) (map line_in l.lines) ≡ each (put l.time.0 l.leaf.0 l.pos) (map pair_in l.writes) (map line_in l.initial.lines);
  fit : AreWrites (length l.lines) (map pair_in (drop l.write-index l.writes));
  room : (i : ℕ) → l.write-index ≤ i → i < length l.writes → 0 < (written_line l.lines l.writes i).spare;
  new : (i : ℕ) → l.write-index ≤ i → i < length l.writes → find l.leaf.0 l.pos (written_line l.lines l.writes i).versions ≡ None;
}
