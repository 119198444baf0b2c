use Rattle.std.proofs.Common.{◌≡◌, ◌<◌, ◌≤◌, ℕ, Some}
use Rattle.std.specs.Prelude.{slice_get}
use Rattle.san_seq.specs.declared.wakes.Band.{Band}
use Rattle.san_seq.specs.inner.Firsts.{AreEarlierBy, IsFirst}
use Rattle.san_seq.proofs.next.first_of_bands.Given as goal

abbrev pub invariant-bands : goal.invariant-bands
invariant-bands l = record {
  first : IsFirst l.flat.parts l.marking l.first;
  sooner : l.first.leaf.0 ≤ l.fn.first.leaf.0;
  none : (b : ℕ) (band : Band) → b < l.k → slice_get l.bands b ≡ Some band → AreEarlierBy l.flat.parts band l.was l.is l.marking l.first.leaf.0;
}
