use Rattle.std.proofs.Common.{◌≡◌, ◌<◌, ◌≤◌, ℕ, length}
use Rattle.std.specs.Prelude.{slice_get}
use Rattle.san_law.specs.Net.{Nothing}
use Rattle.san_seq.specs.inner.Nexts.{first_by}
use Rattle.san_seq.proofs.next.first_awake.Given as goal

abbrev pub invariant-leaves : goal.invariant-leaves
invariant-leaves l = record {
  low : l.from ≤ length l.awake;
  before : (j : ℕ) → j < l.from → first_by l.marking (slice_get l.flat.parts j) ≡ Nothing;
}
