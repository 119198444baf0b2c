use Rattle.std.proofs.Common.{◌≡◌, ◌<◌, ℕ, Some}
use Rattle.std.specs.Prelude.{slice_get}
use Rattle.san_base.specs.declared.numbers.LeafId.{LeafId}
use Rattle.san_law.specs.Net.{Nothing}
use Rattle.san_seq.specs.inner.Nexts.{first_by}
use Rattle.san_seq.proofs.next.first_among.Given as goal

abbrev pub invariant-leaves : goal.invariant-leaves
invariant-leaves l = (i : ℕ) (leaf : LeafId) → i < l.k → slice_get l.leaves i ≡ Some leaf → first_by l.marking (slice_get l.flat.parts leaf.0) ≡ Nothing
