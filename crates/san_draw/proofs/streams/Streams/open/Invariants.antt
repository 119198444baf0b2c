use Rattle.std.proofs.Common.{◌≡◌, length}
use Rattle.san_draw.specs.Streams.{AreOf}
use Rattle.san_draw.proofs.streams.Streams.open.Given as goal

abbrev pub invariant-loop-stream : goal.invariant-loop-stream
invariant-loop-stream l = record {
  generators : AreOf l.seed 0 l.generators.items;
  long : length l.generators.items ≡ l.stream;
}
