use Rattle.std.proofs.Common.{◌≡◌, length}
use Rattle.san_seq.proofs.FlaggedLemmas.{AreLeft}
use Rattle.san_seq.proofs.stale.take_down.Given as goal

abbrev pub invariant-list : goal.invariant-list
invariant-list l = record {
  sized : length l.flags ≡ length l.fn.flags;
  left : AreLeft l.flags l.up l.k;
}
