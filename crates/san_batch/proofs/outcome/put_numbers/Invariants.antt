use Rattle.std.proofs.Common.{◌≡◌, map, take}
use Rattle.san_batch.specs.Outcomes.{number_of}
use Rattle.san_batch.proofs.outcome.put_numbers.Given as goal

abbrev pub invariant-loop-worth : goal.invariant-loop-worth
invariant-loop-worth l = l.numbers.items ≡ map number_of (take l.worth-index l.worths)
