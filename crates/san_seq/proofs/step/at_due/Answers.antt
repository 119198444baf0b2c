use Rattle.std.proofs.Common.{arith, refl, ◌∙◌, ◌+◌, ◌<◌, ◌≡◌, sym, ap, subst, ℕ, length, Some}
use Rattle.san_draw.specs.Key.{draw_of}
use Rattle.san_law.specs.State.{State}
use Rattle.san_law.specs.Step.{at_due, fire}
use Rattle.san_net.specs.Network.{net_of}
use Rattle.san_seq.specs.inner.Dues.{due_in}
use Rattle.san_net.specs.Runs.{limits_in}
use Rattle.san_seq.specs.inner.Running.{IsDrawn}
use Rattle.san_seq.proofs.KnownLemmas.{fire_sized, if_answered, timed_known}
use Rattle.san_seq.proofs.RangeLemmas.{rows_small}
use Rattle.san_seq.proofs.RunningLemmas.{counted_small, fired_drawn}
use Rattle.san_seq.proofs.SteppingLemmas.{due_fires, steps_like, timed_runs}
use Rattle.san_seq.proofs.step.at_due.Goals as goal

pub complete_timed-answer-requires-clause-sized : goal.complete_timed-answer-requires-clause-sized
complete_timed-answer-requires-clause-sized c =
    let net = net_of c.args.flat.now (draw_of c.args.streams.now.seed) (limits_in c.args.limits.now) in
    (subst (IsDrawn c.args.flat.now c.args.limits.now (c.args.state.now.count + 1)) (sym (c.fire.ensures.fired net))
    (fired_drawn net c.args.flat.now c.args.limits.now (c.args.state.now.count + 1) c.args.state.now (due_in c.args.due) c.requires.drawn c.requires.leaf c.if-due-limits.true)).marking

pub complete_timed-answer-requires-clause-rows : goal.complete_timed-answer-requires-clause-rows
complete_timed-answer-requires-clause-rows c =
    let net = net_of c.args.flat.now (draw_of c.args.streams.now.seed) (limits_in c.args.limits.now) in
    (subst (IsDrawn c.args.flat.now c.args.limits.now (c.args.state.now.count + 1)) (sym (c.fire.ensures.fired net))
    (fired_drawn net c.args.flat.now c.args.limits.now (c.args.state.now.count + 1) c.args.state.now (due_in c.args.due) c.requires.drawn c.requires.leaf c.if-due-limits.true)).rows

pub complete_timed-answer-requires-clause-number : goal.complete_timed-answer-requires-clause-number
complete_timed-answer-requires-clause-number c =
    let net = net_of c.args.flat.now (draw_of c.args.streams.now.seed) (limits_in c.args.limits.now) in
    let drawn = subst (IsDrawn c.args.flat.now c.args.limits.now (c.args.state.now.count + 1)) (sym (c.fire.ensures.fired net))
    (fired_drawn net c.args.flat.now c.args.limits.now (c.args.state.now.count + 1) c.args.state.now (due_in c.args.due) c.requires.drawn c.requires.leaf c.if-due-limits.true) in
    omega (arith, counted_small c.fire.new.state.rows c.fire.new.state.count c.args.due.leaf.0 c.args.due.act drawn.cases, drawn.count, c.requires.range.events_in_range)

pub complete_timed-answer-requires-clause-count : goal.complete_timed-answer-requires-clause-count
complete_timed-answer-requires-clause-count c =
    let net = net_of c.args.flat.now (draw_of c.args.streams.now.seed) (limits_in c.args.limits.now) in
    let drawn = subst (IsDrawn c.args.flat.now c.args.limits.now (c.args.state.now.count + 1)) (sym (c.fire.ensures.fired net))
    (fired_drawn net c.args.flat.now c.args.limits.now (c.args.state.now.count + 1) c.args.state.now (due_in c.args.due) c.requires.drawn c.requires.leaf c.if-due-limits.true) in
    omega (arith, drawn.count, c.requires.range.events_in_range)

pub returns-then-due-limits-clause-steps : goal.returns-then-due-limits-clause-steps
returns-then-due-limits-clause-steps c = λ s same.
    let net = net_of c.args.flat.now (draw_of c.args.streams.now.seed) (limits_in c.args.limits.now) in
    let d = due_in c.args.due in
    steps_like c.args.flat.now c.complete_timed-answer.result c.complete_timed-answer.new.state (fire net c.fire.new.state d.leaf d.act) (at_due net s c.args.state.now.rows (Some d))
    c.complete_timed-answer.ensures.answered
    c.complete_timed-answer.ensures.left
    (due_fires net s c.args.state.now c.fire.new.state d same c.if-due-limits.true (c.fire.ensures.fired net))

pub returns-then-due-limits-clause-running : goal.returns-then-due-limits-clause-running
returns-then-due-limits-clause-running c =
    let net = net_of c.args.flat.now (draw_of c.args.streams.now.seed) (limits_in c.args.limits.now) in
    let d = due_in c.args.due in
    let n = c.args.flat.now in
    let limits = c.args.limits.now in
    let count : c.fire.new.state.count ≡ c.args.state.now.count = ap (λ (x : State). x.count) (c.fire.ensures.fired net) in
    let drawn = subst (IsDrawn n limits (c.args.state.now.count + 1)) (sym (c.fire.ensures.fired net))
    (fired_drawn net n limits (c.args.state.now.count + 1) c.args.state.now d c.requires.drawn c.requires.leaf c.if-due-limits.true) in
    let drawn_there = subst (λ (m : ℕ). IsDrawn n limits (m + 1) c.fire.new.state) (sym count) drawn in
    let inside : d.leaf < length c.fire.new.state.rows = omega (arith, c.requires.leaf, c.requires.drawn.rows.each, drawn.rows.each) in
    timed_runs n (draw_of c.args.streams.now.seed) limits c.fire.new.state c.complete_timed-answer.new.state d.leaf d.act drawn_there inside c.complete_timed-answer.result
    c.complete_timed-answer.ensures.answered
    c.complete_timed-answer.ensures.left

pub touch-requires-clause-stable : goal.touch-requires-clause-stable
touch-requires-clause-stable c =
    let n = c.args.flat.now in
    let net = net_of n (draw_of c.args.streams.now.seed) (limits_in c.args.limits.now) in
    let u = c.fire.new.state in
    let marking = ap (λ (x : State). length x.marking) (c.fire.ensures.fired net) ∙ c.requires.drawn.marking in
    let stable = ap (λ (x : State). length x.stable) (c.fire.ensures.fired net) ∙ c.requires.drawn.marking in
    ap length (c.deref.ensures.value ∙ ap (λ (x : State). x.stable) c.state.view_is) ∙ ap (λ (x : State). length x.stable) c.complete_timed-answer.ensures.left
    ∙ (fire_sized net u c.args.due.leaf.0 c.args.due.act (length n.initial) marking stable).1

pub touch-requires-clause-marking : goal.touch-requires-clause-marking
touch-requires-clause-marking c =
    let n = c.args.flat.now in
    let net = net_of n (draw_of c.args.streams.now.seed) (limits_in c.args.limits.now) in
    let u = c.fire.new.state in
    let marking = ap (λ (x : State). length x.marking) (c.fire.ensures.fired net) ∙ c.requires.drawn.marking in
    let stable = ap (λ (x : State). length x.stable) (c.fire.ensures.fired net) ∙ c.requires.drawn.marking in
    ap length (c.deref-then-due-limits.ensures.value ∙ ap (λ (x : State). x.marking) c.state.view_is) ∙ ap (λ (x : State). length x.marking) c.complete_timed-answer.ensures.left
    ∙ (fire_sized net u c.args.due.leaf.0 c.args.due.act (length n.initial) marking stable).0

pub returns-then-due-limits-clause-known : goal.returns-then-due-limits-clause-known
returns-then-due-limits-clause-known c =
    let n = c.args.flat.now in
    let draw = draw_of c.args.streams.now.seed in
    let bounds = limits_in c.args.limits.now in
    let net = net_of n draw bounds in
    let d = due_in c.args.due in
    let u = c.fire.new.state in
    let v = c.complete_timed-answer.new.state in
    if_answered c.complete_timed-answer.result n (fire net u d.leaf d.act).0 _ c.complete_timed-answer.ensures.answered
    (λ t e. timed_known n draw bounds c.args.wakes.now c.is_network.ensures.laid d.leaf d.act (omega (arith, c.requires.leaf, c.requires.drawn.rows.each)) v c.deref.result.now c.deref-then-due-limits.result.now c.fire.new.stale c.touch.new.stale
    (c.deref.ensures.value ∙ ap (λ (x : State). x.stable) c.state.view_is) (c.deref-then-due-limits.ensures.value ∙ ap (λ (x : State). x.marking) c.state.view_is)
    c.requires.woken c.fire.ensures.flags c.touch.ensures.own c.touch.ensures.awake c.touch.ensures.touched
    c.args.state.now d u t refl c.requires.drawn.marking (c.fire.ensures.fired net) c.fire.ensures.asleep c.requires.quiet c.complete_timed-answer.ensures.left e)

pub fire-requires-clause-small : goal.fire-requires-clause-small
fire-requires-clause-small c = λ j. rows_small c.args.flat.now c.args.state.now.rows c.is_network.ensures.network c.requires.drawn.rows j
