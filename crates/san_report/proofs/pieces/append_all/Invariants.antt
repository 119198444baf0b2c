use Rattle.std.proofs.Common.{◌++◌, ◌≡◌, ◌≤◌, length, map, drop}
use Rattle.san_report.specs.Lines.{joined}
use Rattle.san_report.proofs.pieces.append_all.Given as goal

abbrev pub invariant-pieces : goal.invariant-pieces
invariant-pieces l = record {
  rest : l.page.held ++ joined (drop l.k (map (λ p. p.now) l.pieces)) ≡ l.fn.page.held ++ joined (map (λ p. p.now) l.pieces);
  room : length (joined (drop l.k (map (λ p. p.now) l.pieces))) ≤ l.page.room;
}
