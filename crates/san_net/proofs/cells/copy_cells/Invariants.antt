use Rattle.std.proofs.Common.{◌≡◌, ◌<◌, ℕ, length, map, slice_index}
use Rattle.san_law.specs.State.{gather}
use Rattle.san_net.specs.Laid.{place_of}
use Rattle.san_net.proofs.CellLemmas.{outside}
use Rattle.san_net.proofs.cells.copy_cells.Given as goal

abbrev pub invariant-cells : goal.invariant-cells
invariant-cells l = record {
  sized : length l.to ≡ length l.fn.to;
  rest : outside (map place_of l.slots) l.to ≡ outside (map place_of l.slots) l.fn.to;
  front : (i : ℕ) → i < l.k → slice_index l.to (slice_index (map place_of l.slots) i) ≡ slice_index (gather (map place_of l.slots) l.from) i;
}
