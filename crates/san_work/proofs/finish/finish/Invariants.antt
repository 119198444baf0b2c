use Rattle.san_core.specs.Machines.{core_in, net_in}
use Rattle.san_core.specs.Redone.{IsSameRun}
use Rattle.san_law.specs.Left.{left}
use Rattle.san_work.proofs.finish.finish.Given as goal

abbrev pub invariant-pieces : goal.invariant-pieces
invariant-pieces l = IsSameRun l.fn.core.machine l.core.machine

abbrev pub decreases-pieces : goal.decreases-pieces
decreases-pieces l = left (net_in l.core.machine) (core_in l.core.machine)
