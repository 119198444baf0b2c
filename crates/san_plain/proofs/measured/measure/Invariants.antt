use Rattle.std.proofs.Common.{List}
use Rattle.san_law.specs.State.{State}
use Rattle.san_law.specs.Step as law
use Rattle.san_plain.specs.inner.Progress.{RunStands}
use Rattle.san_seq.specs.FlatRun.{steps_left}
use Rattle.san_plain.proofs.measured.measure.Given as goal

abbrev pub invariant-steps : goal.invariant-steps
invariant-steps l = (es : List law.Event) × (s : State) × RunStands (record { network = l.flat; seed = l.seed; limits = l.fn.limits }) es s l.run

abbrev pub decreases-steps : goal.decreases-steps
decreases-steps l = steps_left l.run.seq
