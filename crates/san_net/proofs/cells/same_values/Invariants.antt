use Rattle.std.proofs.Common.{◌≡◌, map, drop}
use Rattle.san_law.specs.Clocks.{same_list}
use Rattle.san_law.specs.State.{gather}
use Rattle.san_net.specs.Laid.{place_of}
use Rattle.san_net.proofs.cells.same_values.Given as goal

abbrev pub invariant-cells : goal.invariant-cells
invariant-cells l = record {
  rest : same_list (gather (map place_of l.slots) l.a) (gather (map place_of l.slots) l.b) ≡ same_list (gather (drop l.k (map place_of l.slots)) l.a) (gather (drop l.k (map place_of l.slots)) l.b);
}
