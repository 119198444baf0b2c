use Rattle.std.proofs.Common.{◌≡◌, drop, map}
use Rattle.san_book.specs.Lines.{agrees, seen_at}
use Rattle.san_ahead.specs.Aheads.{line_in}
use Rattle.san_ahead.proofs.lines.agrees_at.Given as goal

abbrev pub invariant-read : goal.invariant-read
invariant-read l = agrees (seen_at (map line_in l.lines) l.stamp) (drop l.entry-index l.log) ≡ agrees (seen_at (map line_in l.lines) l.stamp) l.log
