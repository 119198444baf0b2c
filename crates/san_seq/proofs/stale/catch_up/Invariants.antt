use Rattle.std.proofs.Common.{◌≡◌, length}
use Rattle.san_seq.specs.inner.Known.{HaveSame}
use Rattle.san_seq.proofs.FlaggedLemmas.{AreCopied}
use Rattle.san_seq.proofs.stale.catch_up.Given as goal

abbrev pub invariant-places : goal.invariant-places
invariant-places l = record {
  sized : length l.stable ≡ length l.fn.stable;
  same : HaveSame l.places l.stable l.marking;
  copied : AreCopied l.changed l.k l.stable l.marking;
}
