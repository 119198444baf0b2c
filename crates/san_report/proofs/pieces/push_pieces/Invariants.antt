use Rattle.std.proofs.Common.{◌++◌, ◌≡◌, map, drop}
use Rattle.san_report.specs.Lines.{joined}
use Rattle.san_report.proofs.pieces.push_pieces.Given as goal

abbrev pub invariant-pieces : goal.invariant-pieces
invariant-pieces l = l.text.items ++ joined (drop l.k (map (λ p. p.now) l.pieces)) ≡ l.fn.text.items ++ joined (map (λ p. p.now) l.pieces)
