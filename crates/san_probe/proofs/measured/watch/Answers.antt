use Rattle.std.proofs.Common.{rules, arith, ◌≡◌, ◌∙◌, sym, to_z, of_z, w64}
use Rattle.san_seq.proofs.RunLemmas.{fewer_left}
use Rattle.san_probe.proofs.TurnLemmas.{counts_later, event_within, first_marked, none_before, turn_beyond, turn_marked, turn_stopped, turn_sum, turn_watches, watches_first}
use Rattle.san_probe.proofs.measured.watch.Goals as goal
use Rattle.san_seq.proofs.PublicAnswers.{event_answered}
use Rattle.san_seq.specs.FlatRun.{step_of}

pub at-requires : goal.at-requires
at-requires g c =
    let n = c.is_network.ensures in
    first_marked c.args.flat.now c.args.seed c.args.limits n.network n.shared n.private c.in_ok-seq.seq c.in_ok-seq.ensures c.marking.result.now c.marking.ensures c.args.gauge.now.1 c.requires.places

pub steps-init : goal.steps-init
steps-init g c =
    let n = c.is_network.ensures in
    let value : to_z w64 (of_z w64 c.at.result) ≡ g.M.Measure.value c.args.gauge.now.0 c.marking.result.now = search (rules, c.at.ensures) in (
      0,
      none_before c.args.from.0 c.args.to.0,
      omega arith,
      watches_first c.args.flat.now c.args.seed c.args.limits n.network n.shared n.private c.in_ok-seq.seq c.in_ok-seq.ensures c.marking.result.now c.marking.ensures (g.M.Measure.value c.args.gauge.now.0) c.args.from.0 c.args.to.0 _ value,
    )

pub accrue-sum-requires-clause-later : goal.accrue-sum-requires-clause-later
accrue-sum-requires-clause-later g c =
    let i = c.steps.invariant in
    let k = counts_later c.args.flat.now c.args.seed c.args.limits c.is_network.ensures.network (g.M.Measure.value c.args.gauge.now.0) c.args.from.0 c.args.to.0 c.steps.seq c.steps.progress.sum i.0 c.steps.progress.value i.3 c.in-Event.event (sym c.step.ensures.answered ∙ c.in-Event.is) in
    omega (arith, i.1, c.ticks_before-counted.ensures.value, k)

pub accrue-sum-requires-clause-few : goal.accrue-sum-requires-clause-few
accrue-sum-requires-clause-few g c =
    let i = c.steps.invariant in
    let k = event_within c.args.flat.now c.args.seed c.args.limits c.is_network.ensures.network (g.M.Measure.value c.args.gauge.now.0) c.args.from.0 c.args.to.0 c.steps.seq c.steps.progress.sum i.0 c.steps.progress.value i.3 c.in-Event.event (sym c.step.ensures.answered ∙ c.in-Event.is) in
    omega (arith, c.ticks_before-counted.ensures.few, k, c.requires.limits.horizon_in_range)

pub at-value-requires : goal.at-value-requires
at-value-requires g c =
    let i = c.steps.invariant in
    turn_marked c.args.flat.now c.args.seed c.args.limits c.is_network.ensures.network (g.M.Measure.value c.args.gauge.now.0) c.args.from.0 c.args.to.0 c.steps.seq c.steps.progress.sum i.0 c.steps.progress.value i.3 c.in-Event.event (sym c.step.ensures.answered ∙ c.in-Event.is)
    c.step.new.self c.step.ensures.left c.marking-in-Event.result.now c.marking-in-Event.ensures c.args.gauge.now.1 c.requires.places

pub steps-smaller : goal.steps-smaller
steps-smaller g c = fewer_left c.steps.seq c.step.new.self c.in-Event.event (event_answered (step_of c.steps.seq).0 c.in-Event.event (sym c.step.ensures.answered ∙ c.in-Event.is)) c.step.ensures.left

pub steps-preserved : goal.steps-preserved
steps-preserved g c =
    let i = c.steps.invariant in
    let value : to_z w64 (of_z w64 c.at-value.result) ≡ g.M.Measure.value c.args.gauge.now.0 c.marking-in-Event.result.now = search (rules, c.at-value.ensures) in (
      c.in-Event.event.time.0,
      c.ticks_before-counted.ensures.value,
      search (rules, c.accrue-sum.ensures.small),
      turn_watches c.args.flat.now c.args.seed c.args.limits c.is_network.ensures.network (g.M.Measure.value c.args.gauge.now.0) c.args.from.0 c.args.to.0 c.steps.seq c.steps.progress.sum i.0 c.steps.progress.value i.3 c.in-Event.event (sym c.step.ensures.answered ∙ c.in-Event.is)
          c.step.new.self c.step.ensures.left c.marking-in-Event.result.now c.marking-in-Event.ensures _ _ c.steps.progress.counted c.ticks_before-counted.result i.1 c.ticks_before-counted.ensures.value (search (rules, c.accrue-sum.ensures.sum)) value,
    )

pub returns-then-to-limits : goal.returns-then-to-limits
returns-then-to-limits g c =
    let i = c.steps.invariant in
    turn_beyond c.args.flat.now c.args.seed c.args.limits c.is_network.ensures.network (g.M.Measure.value c.args.gauge.now.0) c.args.from.0 c.args.to.0 c.steps.seq c.steps.progress.sum i.0 c.steps.progress.value i.3 (sym c.step.ensures.answered ∙ c.in-End.is) (omega (arith, c.if-to-limits.true))

pub returns-in-End : goal.returns-in-End
returns-in-End g c =
    let i = c.steps.invariant in
    turn_sum c.args.flat.now c.args.seed c.args.limits c.is_network.ensures.network (g.M.Measure.value c.args.gauge.now.0) c.args.from.0 c.args.to.0 c.steps.seq c.steps.progress.sum i.0 c.steps.progress.value i.3 (sym c.step.ensures.answered ∙ c.in-End.is)
    _ c.steps.progress.counted c.ticks_before-counted-in-End.result (omega (arith, c.if-to-limits.false)) i.1 c.ticks_before-counted-in-End.ensures.value (search (rules, c.accrue.ensures.sum))

pub returns-in-Stopped : goal.returns-in-Stopped
returns-in-Stopped g c =
    let i = c.steps.invariant in
    turn_stopped c.args.flat.now c.args.seed c.args.limits c.is_network.ensures.network (g.M.Measure.value c.args.gauge.now.0) c.args.from.0 c.args.to.0 c.steps.seq c.steps.progress.sum i.0 c.steps.progress.value i.3 c.in-Stopped.stop (sym c.step.ensures.answered ∙ c.in-Stopped.is)
