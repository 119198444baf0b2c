use Rattle.std.proofs.Common.{◌≡◌, map, take}
use Rattle.std.specs.List.{list_any}
use Rattle.san_net.specs.Laid.{place_of}
use Rattle.san_plain.specs.inner.Rates.{FollowsPlaces, differs_at}
use Rattle.san_plain.proofs.rates.rate_others.Given as goal

abbrev pub invariant-cells : goal.invariant-cells
invariant-cells l = record {
  rates : FollowsPlaces l.flat (take l.k (map place_of l.slots)) l.leaf.0 l.before l.marking l.fn.tally l.tally;
  changed : l.changed ≡ list_any (differs_at l.before l.marking) (take l.k (map place_of l.slots));
}
