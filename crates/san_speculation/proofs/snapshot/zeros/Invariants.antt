use Rattle.std.proofs.Common.{◌≡◌, ◌++◌, drop, map}
use Rattle.san_speculation.proofs.snapshot.zeros.Given as goal

abbrev pub invariant-places : goal.invariant-places
invariant-places l = l.values.items ++ map (λ q. 0) (drop l.counter l.places) ≡ map (λ q. 0) l.places
