use Rattle.std.proofs.Common.{◌≡◌, map, take, length}
use Rattle.san_net.specs.Laid.{place_of}
use Rattle.san_net.specs.Tables.{IsNoted}
use Rattle.san_net.proofs.tables.note.Given as goal

abbrev pub invariant-slots : goal.invariant-slots
invariant-slots l =
    record {
      sized : length l.table.items ≡ length l.initial.table.items;
      noted : IsNoted (map (λ v. v.items) l.initial.table.items) (map (λ v. v.items) l.table.items) l.leaf (take l.slot-index (map place_of l.slots));
    }
