use Rattle.std.proofs.Common.{◌≡◌, drop, length}
use Rattle.san_turn.specs.inner.Marks.{raised_all}
use Rattle.san_turn.proofs.marks.raise_all.Given as goal

abbrev pub invariant-places : goal.invariant-places
invariant-places l = record {
  sized : length l.flags ≡ length l.fn.flags;
  raised : raised_all l.flat.parts (drop l.place-index l.places) l.flags ≡ raised_all l.flat.parts l.places l.fn.flags;
}
