use Rattle.std.proofs.Common.{take}
use Rattle.san_seq.specs.inner.Known.{AreRaised}
use Rattle.san_seq.proofs.stale.raise_bands.Given as goal

abbrev pub invariant-bands : goal.invariant-bands
invariant-bands l = AreRaised (take l.k l.bands) l.was l.is l.fn.flags l.flags
