use Rattle.std.proofs.Common.{map}
use Rattle.san_seq.specs.inner.Wakes.{IsIndex}
use Rattle.san_seq.proofs.bands.table.Given as goal

abbrev pub invariant-leaves : goal.invariant-leaves
invariant-leaves l = IsIndex l.concern l.flat l.j (map (λ v. v.items) l.table.items)
