use Rattle.std.proofs.Common.{◌≡◌, ◌+◌, ◌≤◌, drop, map, sum}
use Rattle.san_delay.proofs.TableLemmas.{first_delay}
use Rattle.san_delay.proofs.weighted.delay.Given as goal

abbrev pub invariant-loop-delay : goal.invariant-loop-delay
invariant-loop-delay l = record {
  passed : l.before ≤ l.picked;
  total : l.before + sum (map (λ e. e.1) (drop l.delay-index l.entries)) ≡ sum (map (λ e. e.1) l.entries);
  chosen : first_delay l.before (drop l.delay-index l.entries) l.picked ≡ first_delay 0 l.entries l.picked;
}
