use Rattle.san_seq.specs.inner.Known.{Raised}
use Rattle.std.proofs.Common.{take}
use Rattle.san_seq.proofs.stale.raise.Given as goal

abbrev pub invariant-leaves : goal.invariant-leaves
invariant-leaves l = Raised (take l.k l.leaves) l.fn.flags l.flags
