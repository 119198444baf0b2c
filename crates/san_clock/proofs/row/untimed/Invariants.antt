use Rattle.std.proofs.Common.{◌≡◌, None}
use Rattle.san_law.specs.State.{repeated}
use Rattle.san_clock.proofs.row.untimed.Given as goal

abbrev pub invariant-acts : goal.invariant-acts
invariant-acts l = l.timers.items ≡ repeated l.k None
