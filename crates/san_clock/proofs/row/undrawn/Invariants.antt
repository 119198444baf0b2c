use Rattle.std.proofs.Common.{◌≡◌}
use Rattle.san_law.specs.State.{repeated}
use Rattle.san_clock.proofs.row.undrawn.Given as goal

abbrev pub invariant-acts : goal.invariant-acts
invariant-acts l = l.numbers.items ≡ repeated l.k 0
