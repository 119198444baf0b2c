use Rattle.std.proofs.Common.{None, map, replicate, ◌≡◌}
use Rattle.san_speculation.specs.Speculating.{claim_in}
use Rattle.san_speculation.proofs.opening.no_claims.Given as goal

abbrev pub invariant-all : goal.invariant-all
invariant-all l = map claim_in l.claims.items ≡ replicate l.counter None
