use Rattle.std.proofs.Common.{ℕ, List, ◌∙◌, ◌≡◌, ◌+◌, ap, drop, map, subst, sym}
use Rattle.san_net.specs.Leaf.{slot_in}
use Rattle.san_speculation.specs.Snapshots.{added, shared_more}
use Rattle.san_speculation.specs.inner.Ascending.{AreAscending}
use Rattle.san_speculation.proofs.SnapshotLemmas.{added_ascending, private_more_by, shared_more_by}
use Rattle.san_speculation.proofs.snapshot.shared_of.Goals.{in-Shared+in_ok-add, in_default}
use Rattle.san_speculation.proofs.snapshot.shared_of.Goals as goal

pub slots-preserved : goal.slots-preserved
slots-preserved c = elim c.match-slot.branch [
  | in-Shared+in_ok-add w ↦ (
      let q = w.in-Shared.place.0 in
      let qs = c.slots.places.items in
      let is : c.match-slot.places.items ≡ added q qs = ap (λ v. v.items) w.places-is ∙ w.in_ok-add.ensures in
      record {
        places = ap (λ (xs : List ℕ). shared_more xs (map slot_in (drop (c.slots.slot-index + 1) c.args.slots.now))) is
            ∙ shared_more_by qs c.args.slots.now c.slots.slot-index w.in-Shared.place c.slots-test.true w.in-Shared.is ∙ c.slots.invariant.places;
        ascending = subst AreAscending (sym is) (added_ascending q qs c.slots.invariant.ascending);
      })
  | in_default w ↦ (
      let qs = c.slots.places.items in
      let is : c.match-slot.places.items ≡ qs = ap (λ v. v.items) w.places-is in
      record {
        places = ap (λ (xs : List ℕ). shared_more xs (map slot_in (drop (c.slots.slot-index + 1) c.args.slots.now))) is
            ∙ private_more_by qs c.args.slots.now c.slots.slot-index w.in_default.field-0 c.slots-test.true w.in_default.is ∙ c.slots.invariant.places;
        ascending = subst AreAscending (sym is) c.slots.invariant.ascending;
      })
]
