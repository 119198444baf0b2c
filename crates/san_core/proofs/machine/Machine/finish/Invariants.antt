use Rattle.san_law.specs.Left.{left}
use Rattle.san_core.specs.Machines.{core_in, net_in}
use Rattle.san_core.specs.Redone.{IsSameRun}
use Rattle.san_core.proofs.machine.Machine.finish.Given as goal

abbrev pub invariant-pieces : goal.invariant-pieces
invariant-pieces l = IsSameRun l.fn.self l.self

abbrev pub decreases-pieces : goal.decreases-pieces
decreases-pieces l = left (net_in l.self) (core_in l.self)
