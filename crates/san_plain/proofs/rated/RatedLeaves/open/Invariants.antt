use Rattle.std.proofs.Common.{◌≡◌, length, map}
use Rattle.san_plain.proofs.RatedLemmas.{AreFirst}
use Rattle.san_plain.proofs.rated.RatedLeaves.open.Given as goal

abbrev pub invariant-places : goal.invariant-places
invariant-places l = record {
  sized : length (map (λ v. v.items) l.leaves.items) ≡ l.q;
  each : AreFirst l.flat l.q (map (λ v. v.items) l.leaves.items);
}
