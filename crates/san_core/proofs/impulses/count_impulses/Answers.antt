use Rattle.std.proofs.Common.{◌+◌, ◌-◌, ◌<◌, length, All, arith, subst, List}
use Rattle.san_law.specs.Net as law
use Rattle.san_leaf.specs.Events.{impulses_at}
use Rattle.san_core.specs.inner.Impulses.{impulses_from}
use Rattle.san_core.proofs.ImpulseLemmas.{Counts, all_left, event_counted, event_here}
use Rattle.san_core.proofs.impulses.count_impulses.Goals as goal

pub count_event-requires-clause-rewards : goal.count_event-requires-clause-rewards
count_event-requires-clause-rewards c =
    let xs = c.args.impulses.now in
    all_left (λ (y : law.Impulse). y.reward < length c.events.tally.spans) (impulses_at c.events.event xs) (impulses_from (c.events.event + 1) (c.args.events - (c.events.event + 1)) xs)
    (subst (λ (ys : List law.Impulse). All (λ (y : law.Impulse). y.reward < length c.events.tally.spans) ys) (event_here xs c.events.event c.args.events c.events-test.true) c.events.invariant.rewards)

pub events-preserved : goal.events-preserved
events-preserved c =
    let xs = c.args.impulses.now in
    let i = c.events.event in
    let rest = impulses_from i (c.args.events - i) xs in
    let more = impulses_from (i + 1) (c.args.events - (i + 1)) xs in
    let all = impulses_from 0 c.args.events xs in
    let h : Counts c.args.tally.now c.events.tally all rest = record { rewards = c.events.invariant.rewards; few = c.events.invariant.few; counted = c.events.invariant.counted } in
    let k = event_counted c.args.tally.now c.events.tally c.count_event.new.tally all rest (impulses_at i xs) more (event_here xs i c.args.events c.events-test.true) c.count_event.ensures h in
    record { within = omega (arith, c.events-test.true); rewards = k.rewards; few = k.few; counted = k.counted }
