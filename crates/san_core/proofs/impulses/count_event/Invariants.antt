use Rattle.std.proofs.Common.{◌≡◌, ◌≤◌, ◌<◌, ◌+◌, ◌-◌, length, drop}
use Rattle.std.specs.Prelude.{All}
use Rattle.san_base.specs.declared.limits.TheConstants.{MAX_IMPULSES}
use Rattle.san_leaf.specs.Events.{impulses_at}
use Rattle.san_reward.specs.Running.{with_impulses}
use Rattle.san_core.proofs.impulses.count_event.Given as goal

abbrev pub invariant-each : goal.invariant-each
invariant-each l = record {
  within : l.at ≤ length l.impulses;
  rewards : All (λ x. x.reward < length l.tally.spans) (impulses_at l.event (drop l.at l.impulses));
  few : l.tally.tally.impulses + length (impulses_at l.event (drop l.at l.impulses)) ≤ MAX_IMPULSES;
  counted : with_impulses l.fn.tally (impulses_at l.event l.impulses) ≡ with_impulses l.tally (impulses_at l.event (drop l.at l.impulses));
}

abbrev pub decreases-each : goal.decreases-each
decreases-each l = length l.impulses - l.at
