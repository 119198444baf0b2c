use Rattle.std.proofs.Common.{◌≡◌, ◌++◌, drop, map}
use Rattle.san_check.specs.build.Activity.{case_of}
use Rattle.san_check.proofs.build.activity.weighted_of.Given as goal

abbrev pub invariant-cases : goal.invariant-cases
invariant-cases l = l.made.items ++ map (case_of l.cells) (drop l.case-index l.cases) ≡ map (case_of l.cells) l.cases
