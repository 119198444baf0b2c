use Rattle.std.proofs.Common.{List}
use Rattle.san_law.specs.State.{State}
use Rattle.san_law.specs.Step as law
use Rattle.san_plain.specs.inner.Progress.{IsLastOf, RunStands, opened_by}
use Rattle.san_seq.specs.FlatRun.{steps_left}
use Rattle.san_plain.proofs.counted.CountedRun.run_out.Given as goal

abbrev pub invariant-steps : goal.invariant-steps
invariant-steps l = (es : List law.Event) × (s : State) × RunStands (opened_by l.fn.self) es s l.self × IsLastOf l.fn.self.flat.now es l.last

abbrev pub decreases-steps : goal.decreases-steps
decreases-steps l = steps_left l.self.seq
