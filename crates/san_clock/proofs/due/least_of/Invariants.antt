use Rattle.std.proofs.Common.{◌≡◌, ◌≤◌, length, map, drop}
use Rattle.std.specs.Option.{option_map}
use Rattle.san_law.specs.Net.{least_timer_from}
use Rattle.san_clock.specs.Rows.{timer_in}
use Rattle.san_clock.proofs.due.least_of.Given as goal

abbrev pub invariant-acts : goal.invariant-acts
invariant-acts l = record {
  within : l.k ≤ length l.timers;
  least : l.least ≡ least_timer_from l.k (map (option_map timer_in) (drop l.k l.timers));
}

abbrev pub decreases-acts : goal.decreases-acts
decreases-acts l = l.k
