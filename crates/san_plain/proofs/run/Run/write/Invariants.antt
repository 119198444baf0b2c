use Rattle.std.proofs.Common.{◌≤◌}
use Rattle.san_plain.specs.inner.Progress.{IsUnderWay}
use Rattle.san_seq.specs.FlatRun.{steps_left}
use Rattle.san_plain.proofs.run.Run.write.Given as goal

abbrev pub invariant-turns : goal.invariant-turns
invariant-turns g l = record {
  way : IsUnderWay l.fn.self (g.K.Sink.held l.fn.sink) (g.K.Sink.held l.sink) l.progress;
  later : g.K.Sink.faults l.fn.sink ≤ g.K.Sink.faults l.sink;
}

abbrev pub decreases-turns : goal.decreases-turns
decreases-turns g l = steps_left l.progress.run.seq
