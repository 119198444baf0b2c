use Rattle.std.proofs.Common.{◌≡◌, [], drop, map}
use Rattle.san_net.specs.Leaf.{slot_in}
use Rattle.san_speculation.specs.Snapshots.{shared_more}
use Rattle.san_speculation.specs.inner.Ascending.{AreAscending}
use Rattle.san_speculation.proofs.snapshot.shared_of.Given as goal

abbrev pub invariant-slots : goal.invariant-slots
invariant-slots l = record {
  places : shared_more l.places.items (map slot_in (drop l.slot-index l.slots)) ≡ shared_more [] (map slot_in l.slots);
  ascending : AreAscending l.places.items;
}
