use Rattle.std.proofs.Common.{◌≡◌, map, take}
use Rattle.san_ahead.specs.Aheads.{line_in}
use Rattle.san_book.specs.Cores.{bare_line}
use Rattle.san_ahead.proofs.ahead.bare_lines.Given as goal

abbrev pub invariant-places : goal.invariant-places
invariant-places l = map line_in l.lines.items ≡ map bare_line (take l.value-index l.shared)
