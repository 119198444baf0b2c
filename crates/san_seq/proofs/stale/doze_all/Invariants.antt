use Rattle.std.proofs.Common.{◌≡◌, length}
use Rattle.san_seq.specs.inner.Known.{AreAsleep}
use Rattle.san_seq.proofs.stale.doze_all.Given as goal

abbrev pub invariant-leaves : goal.invariant-leaves
invariant-leaves l = record {
  sized : length l.awake ≡ length l.flat.parts;
  asleep : AreAsleep l.flat l.awake l.marking;
}
