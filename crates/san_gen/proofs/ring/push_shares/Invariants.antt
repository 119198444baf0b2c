use Rattle.std.proofs.Common.{◌≡◌, ◌-◌, ◌++◌}
use Rattle.san_gen.specs.Texts.{share_line, lines_from}
use Rattle.san_gen.proofs.ring.push_shares.Given as goal

abbrev pub invariant-stations : goal.invariant-stations
invariant-stations l = l.text.items ++ lines_from (share_line l.copies) l.station (l.copies - l.station) ≡ l.fn.text.items ++ lines_from (share_line l.copies) 0 l.copies
