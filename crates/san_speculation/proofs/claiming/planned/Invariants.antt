use Rattle.std.proofs.Common.{map}
use Rattle.san_speculation.specs.Speculating.{claim_in}
use Rattle.san_plan.specs.Soonest.{wrong}
use Rattle.san_speculation.specs.inner.Claiming.{free_time}
use Rattle.san_speculation.specs.inner.Soonest.{AreLow}
use Rattle.san_speculation.proofs.claiming.planned.Given as goal

abbrev pub invariant-leaves : goal.invariant-leaves
invariant-leaves l = AreLow l.machine l.ahead (map claim_in l.claims) l.soonest

abbrev pub decreases-leaves : goal.decreases-leaves
decreases-leaves l = wrong (free_time l.machine l.ahead (map claim_in l.claims)) 0 l.soonest
