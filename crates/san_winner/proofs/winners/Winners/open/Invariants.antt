use Rattle.std.proofs.Common.{◌<◌, ◌-◌, ◌^◌}
use Rattle.san_winner.specs.Least.{IsPower}
use Rattle.san_winner.proofs.winners.Winners.open.Given as goal

abbrev pub invariant-doubling : goal.invariant-doubling
invariant-doubling l = record { some : 0 < l.size; small : l.size < 2 ^ 61; power : IsPower l.size }

abbrev pub decreases-doubling : goal.decreases-doubling
decreases-doubling l = l.count - l.size
