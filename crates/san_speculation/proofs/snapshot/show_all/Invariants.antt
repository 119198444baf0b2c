use Rattle.std.proofs.Common.{◌≡◌, ◌++◌, drop, map, take}
use Rattle.san_speculation.specs.Snapshots.{shown_at}
use Rattle.san_speculation.proofs.snapshot.show_all.Given as goal

abbrev pub invariant-places : goal.invariant-places
invariant-places l = l.values ≡ map (shown_at l.ahead.lines l.stamp) (take l.k l.places) ++ drop l.k l.fn.values
