use Rattle.std.proofs.Common.{◌≡◌, ◌<◌, ℕ, Some}
use Rattle.std.specs.Prelude.{slice_get}
use Rattle.san_seq.specs.inner.Looks.{IsOwn}
use Rattle.san_seq.proofs.wakes.Looks.saw_own.Given as goal

abbrev pub invariant-looked : goal.invariant-looked
invariant-looked l = (i at : ℕ) → i < l.k → slice_get l.looked i ≡ Some at → IsOwn l.slots l.values at
