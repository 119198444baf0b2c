use Rattle.std.proofs.Common.{◌≡◌, ◌≤◌, ◌-◌, length, map, take}
use Rattle.std.specs.Prelude.{vec_capacity, vec_len}
use Rattle.san_law.specs.Order.{places_of}
use Rattle.san_leaf.specs.States.{pair_in}
use Rattle.san_core.proofs.news.write_places.Given as goal

abbrev pub invariant-each : goal.invariant-each
invariant-each l = record {
  within : l.at ≤ length l.writes;
  len : vec_len l.written ≡ l.at;
  room : vec_capacity l.fn.written ≤ vec_capacity l.written;
  places : map (λ place. place.0) l.written.items ≡ places_of (map pair_in (take l.at l.writes));
}

abbrev pub decreases-each : goal.decreases-each
decreases-each l = length l.writes - l.at
