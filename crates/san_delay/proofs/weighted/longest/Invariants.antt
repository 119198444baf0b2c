use Rattle.std.proofs.Common.{◌≡◌, drop, max}
use Rattle.san_delay.specs.Longest.{greatest}
use Rattle.san_delay.proofs.weighted.longest.Given as goal

abbrev pub invariant-loop-delay : goal.invariant-loop-delay
invariant-loop-delay l = max l.most (greatest (drop l.delay-index l.entries)) ≡ greatest l.entries
