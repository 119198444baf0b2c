use Rattle.std.proofs.Common.{◌≡◌, ◌++◌, drop, map, take}
use Rattle.san_speculation.proofs.snapshot.fill_all.Given as goal

abbrev pub invariant-places : goal.invariant-places
invariant-places l = l.values ≡ map (λ q. l.value) (take l.k l.places) ++ drop l.k l.fn.values
