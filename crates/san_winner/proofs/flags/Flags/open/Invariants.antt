use Rattle.std.proofs.Common.{◌≡◌, length}
use Rattle.san_winner.specs.Flags.{AreKeys}
use Rattle.san_winner.proofs.FlagLemmas.{UpTo}
use Rattle.san_winner.proofs.flags.Flags.open.Given as goal

abbrev pub invariant-flags : goal.invariant-flags
invariant-flags l = record {
  sized : length l.keys ≡ l.many;
  keys : AreKeys l.keys;
  up : UpTo l.at l.keys;
}
