use Rattle.std.proofs.Common.{◌+◌, drop, slice_index_or, ◌∙◌, arith, pos}
use Rattle.san_base.specs.declared.term.Rated.TheVariants.{Value}
use Rattle.san_leaf.specs.Events.{impulse_in, impulses_at}
use Rattle.san_leaf.specs.declared.recorder.Impulse.{Impulse}
use Rattle.san_core.proofs.ImpulseLemmas.{Counts, impulse_here, impulse_past, none_counted, one_counted, reward_here}
use Rattle.san_core.proofs.impulses.count_event.Goals as goal
use Rattle.san_core.proofs.impulses.count_event.Goals.{then-impulse-event, else-impulse-event}

abbrev no_impulse : Impulse
no_impulse = record { event = 0; reward = 0; rated = Value (pos 0) }

pub impulse-requires-clause-reward : goal.impulse-requires-clause-reward
impulse-requires-clause-reward c =
    let xs = c.args.impulses.now in
    reward_here c.each.tally (impulses_at c.args.event (drop c.each.at xs)) (impulses_at c.args.event (drop (c.each.at + 1) xs)) (impulse_in (slice_index_or xs c.each.at no_impulse))
    (impulse_here xs c.each.at c.args.event no_impulse c.each-test.true c.if-impulse-event.true) c.each.invariant.rewards

pub each-preserved : goal.each-preserved
each-preserved c =
    let xs = c.args.impulses.now in
    let rest = impulses_at c.args.event (drop c.each.at xs) in
    let more = impulses_at c.args.event (drop (c.each.at + 1) xs) in
    let all = impulses_at c.args.event xs in
    let h : Counts c.args.tally.now c.each.tally all rest = record { rewards = c.each.invariant.rewards; few = c.each.invariant.few; counted = c.each.invariant.counted } in
    let k : Counts c.args.tally.now c.if-impulse-event.tally all more = elim c.if-impulse-event.branch [
      | then-impulse-event w ↦ one_counted c.args.tally.now c.each.tally c.if-impulse-event.tally all rest more (impulse_in (slice_index_or xs c.each.at no_impulse)) (impulse_here xs c.each.at c.args.event no_impulse c.each-test.true w.if-impulse-event.true) (w.tally-is ∙ w.impulse.ensures) h
      | else-impulse-event w ↦ none_counted c.args.tally.now c.each.tally c.if-impulse-event.tally all rest more (impulse_past xs c.each.at c.args.event no_impulse c.each-test.true w.if-impulse-event.false) w.tally-is h
    ] in
    record { within = omega (arith, c.each-test.true); rewards = k.rewards; few = k.few; counted = k.counted }
