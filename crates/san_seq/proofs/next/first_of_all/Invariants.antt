use Rattle.std.proofs.Common.{◌≡◌, drop}
use Rattle.san_seq.specs.inner.Nexts.{first_from}
use Rattle.san_seq.proofs.next.first_of_all.Given as goal

abbrev pub invariant-leaves : goal.invariant-leaves
invariant-leaves l = first_from 0 l.marking l.flat.parts ≡ first_from l.j l.marking (drop l.j l.flat.parts)
