use Rattle.std.proofs.Common.{◌≡◌}
use Rattle.san_seq.specs.FlatRun.{ahead, rest_of, steps_left}
use Rattle.san_seq.proofs.seq.Seq.run_all.Given as goal

abbrev pub invariant-steps : goal.invariant-steps
invariant-steps l = ahead l.events (rest_of l.self) ≡ rest_of l.fn.self

abbrev pub decreases-steps : goal.decreases-steps
decreases-steps l = steps_left l.self
