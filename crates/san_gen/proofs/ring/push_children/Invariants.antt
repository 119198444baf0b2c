use Rattle.std.proofs.Common.{◌≡◌, ◌-◌, ◌++◌}
use Rattle.san_gen.specs.Texts.{child_line, lines_from}
use Rattle.san_gen.proofs.ring.push_children.Given as goal

abbrev pub invariant-stations : goal.invariant-stations
invariant-stations l = l.text.items ++ lines_from child_line l.station (l.copies - l.station) ≡ l.fn.text.items ++ lines_from child_line 0 l.copies
