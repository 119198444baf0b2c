use Rattle.std.proofs.Common.{◌≡◌, map, take, length}
use Rattle.san_net.specs.Laid.{places_of}
use Rattle.san_seq.specs.inner.Wakes.{IsIndexed}
use Rattle.san_seq.proofs.bands.note.Given as goal

abbrev pub invariant-cells : goal.invariant-cells
invariant-cells l = record {
  sized : length l.table.items ≡ length l.initial.table.items;
  noted : IsIndexed l.concern l.part.atomic.acts l.part.leaf (take l.k (places_of l.part)) (map (λ v. v.items) l.initial.table.items) (map (λ v. v.items) l.table.items);
}
