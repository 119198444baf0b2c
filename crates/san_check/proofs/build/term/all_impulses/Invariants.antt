use Rattle.std.proofs.Common.{◌≡◌, ◌++◌, drop}
use Rattle.san_check.specs.build.Term.{all_impulses}
use Rattle.san_check.proofs.build.term.all_impulses.Given as goal

abbrev pub invariant-rewards : goal.invariant-rewards
invariant-rewards l = l.impulses.items ++ all_impulses l.cells l.acts l.name l.number (drop l.reward-index l.rewards) ≡ all_impulses l.cells l.acts l.name 0 l.rewards
