use Rattle.std.proofs.Common.{◌≡◌, drop, length}
use Rattle.san_turn.specs.inner.Marks.{raised}
use Rattle.san_turn.proofs.marks.raise.Given as goal

abbrev pub invariant-leaves : goal.invariant-leaves
invariant-leaves l = record {
  sized : length l.flags ≡ length l.fn.flags;
  raised : raised (drop l.leaf-index l.leaves) l.flags ≡ raised l.leaves l.fn.flags;
}
