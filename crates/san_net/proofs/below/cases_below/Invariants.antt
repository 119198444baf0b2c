use Rattle.std.proofs.Common.{◌≡◌, drop}
use Rattle.san_net.specs.Below.{cases_below}
use Rattle.san_net.proofs.below.cases_below.Given as goal

abbrev pub invariant-loop-case : goal.invariant-loop-case
invariant-loop-case l = cases_below l.cases l.places ≡ cases_below (drop l.case-index l.cases) l.places
