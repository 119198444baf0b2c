use Rattle.std.proofs.Common.{◌≡◌, ◌≤◌, ◌<◌, ◌+◌, ◌-◌, length}
use Rattle.std.specs.Prelude.{All}
use Rattle.san_base.specs.declared.limits.TheConstants.{MAX_IMPULSES}
use Rattle.san_reward.specs.Running.{with_impulses}
use Rattle.san_core.specs.inner.Impulses.{impulses_from}
use Rattle.san_core.proofs.impulses.count_impulses.Given as goal

abbrev pub invariant-events : goal.invariant-events
invariant-events l = record {
  within : l.event ≤ l.events;
  rewards : All (λ x. x.reward < length l.tally.spans) (impulses_from l.event (l.events - l.event) l.impulses);
  few : l.tally.tally.impulses + length (impulses_from l.event (l.events - l.event) l.impulses) ≤ MAX_IMPULSES;
  counted : with_impulses l.fn.tally (impulses_from 0 l.events l.impulses) ≡ with_impulses l.tally (impulses_from l.event (l.events - l.event) l.impulses);
}

abbrev pub decreases-events : goal.decreases-events
decreases-events l = l.events - l.event
