use Rattle.std.proofs.Common.{◌≡◌, take}
use Rattle.san_seq.specs.inner.Openings.{rows_of}
use Rattle.san_seq.proofs.rows.blanks.Given as goal

abbrev pub invariant-leaves : goal.invariant-leaves
invariant-leaves l = l.rows.items ≡ rows_of (take l.j l.flat.parts)
