use Rattle.std.proofs.Common.{◌+◌, ◌-◌, ◌≡◌, ◌≤◌, length, map, drop}
use Rattle.san_report.specs.Lines.{joined}
use Rattle.san_report.proofs.pieces.fit.Given as goal

abbrev pub invariant-pieces : goal.invariant-pieces
invariant-pieces l = record {
  within : l.left ≤ l.room;
  sum : length (joined (map (λ p. p.now) l.pieces)) ≡ (l.room - l.left) + length (joined (drop l.k (map (λ p. p.now) l.pieces)));
}
