use Rattle.std.proofs.Common.{◌-◌, ◌≤◌, length, take}
use Rattle.san_base.specs.Flow.{Appends}
use Rattle.san_base.proofs.sink.put_all.Given as goal

abbrev pub invariant-turns : goal.invariant-turns
invariant-turns g l = record {
  within : l.at ≤ length l.bytes;
  later : g.K.Sink.faults l.fn.sink ≤ g.K.Sink.faults l.sink;
  appended : Appends (g.K.Sink.held l.fn.sink) (g.K.Sink.held l.sink) (take l.at l.bytes);
}

abbrev pub decreases-turns : goal.decreases-turns
decreases-turns g l = length l.bytes - l.at
