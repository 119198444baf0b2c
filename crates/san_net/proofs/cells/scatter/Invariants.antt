use Rattle.std.proofs.Common.{◌≡◌, ◌<◌, ℕ, length, map, slice_index}
use Rattle.san_net.specs.Laid.{place_of}
use Rattle.san_net.proofs.CellLemmas.{outside}
use Rattle.san_net.proofs.cells.scatter.Given as goal

abbrev pub invariant-cells : goal.invariant-cells
invariant-cells l = record {
  sized : length l.marking ≡ length l.fn.marking;
  rest : outside (map place_of l.slots) l.marking ≡ outside (map place_of l.slots) l.fn.marking;
  front : (i : ℕ) → i < l.k → slice_index l.marking (slice_index (map place_of l.slots) i) ≡ slice_index l.values i;
}
