use Rattle.std.proofs.Common.{◌≡◌, ◌<◌, ℕ, Some}
use Rattle.std.specs.Prelude.{slice_get}
use Rattle.san_seq.specs.inner.Firsts.{IsEarlier, IsFirst}
use Rattle.san_seq.proofs.next.first_of_changed.Given as goal

abbrev pub invariant-places : goal.invariant-places
invariant-places l = record {
  first : IsFirst l.flat.parts l.markings.present.now l.first;
  none : (i q : ℕ) → i < l.k → slice_get l.changed i ≡ Some q → IsEarlier l.flat.parts l.wakes l.markings.stable.now l.markings.present.now l.first.leaf.0 q;
}
