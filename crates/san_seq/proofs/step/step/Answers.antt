use Rattle.std.proofs.Common.{arith, ◌∙◌, refl, sym, ap, subst, length}
use Rattle.san_draw.specs.Key.{draw_of}
use Rattle.san_law.specs.Next as law
use Rattle.san_law.specs.State.{State}
use Rattle.san_law.specs.Step.{Stepped, Trapped, step}
use Rattle.san_net.specs.Network.{net_of}
use Rattle.san_seq.specs.inner.Nexts.{next_in}
use Rattle.san_net.specs.Runs.{ending_in, limits_in}
use Rattle.san_seq.specs.inner.States.{instant_in}
use Rattle.san_seq.specs.inner.Running.{Steps}
use Rattle.san_seq.proofs.RangeLemmas.{acts_next, next_in_range}
use Rattle.san_seq.proofs.KnownLemmas.{if_answered, instant_known, instant_sized, settled}
use Rattle.san_seq.proofs.NextLaws.{next_is}
use Rattle.san_seq.proofs.RunningLemmas.{ready}
use Rattle.san_seq.proofs.SteppingLemmas.{ends_like, instant_runs, step_is, steps_like}
use Rattle.san_seq.proofs.step.step.Goals as goal

pub complete_instant-answer-requires-clause-act : goal.complete_instant-answer-requires-clause-act
complete_instant-answer-requires-clause-act c =
    let draw = draw_of c.args.streams.now.seed in
    let bounds = limits_in c.args.limits.now in
    next_in_range c.args.flat.now draw bounds c.args.state.now c.in-Completes.leaf.0 c.in-Completes.act c.requires.running.last (ap acts_next (sym (c.next_of.ensures draw bounds) ∙ ap next_in c.in-Completes.is))

pub trapped-requires : goal.trapped-requires
trapped-requires c =
    let draw = draw_of c.args.streams.now.seed in
    let bounds = limits_in c.args.limits.now in
    next_in_range c.args.flat.now draw bounds c.args.state.now c.in-Traps.leaf.0 c.in-Traps.act c.requires.running.last (ap acts_next (sym (c.next_of.ensures draw bounds) ∙ ap next_in c.in-Traps.is))

pub returns-in-Stable-clause-steps : goal.returns-in-Stable-clause-steps
returns-in-Stable-clause-steps c =
    let draw = draw_of c.args.streams.now.seed in
    let bounds = limits_in c.args.limits.now in
    let net = net_of c.args.flat.now draw bounds in
    let is = sym (c.next_of.ensures draw bounds) ∙ ap next_in c.in-Stable.is in
    subst (λ (x : Stepped × State). Steps c.args.flat.now c.at_rest.result c.at_rest.new.state x)
    (step_is net c.args.state.now law.Stable is)
    c.at_rest.ensures.steps

pub returns-in-Completes-clause-steps : goal.returns-in-Completes-clause-steps
returns-in-Completes-clause-steps c =
    let draw = draw_of c.args.streams.now.seed in
    let bounds = limits_in c.args.limits.now in
    let net = net_of c.args.flat.now draw bounds in
    let j = c.in-Completes.leaf.0 in
    let k = c.in-Completes.act in
    let is = sym (c.next_of.ensures draw bounds) ∙ ap next_in c.in-Completes.is in
    steps_like c.args.flat.now c.complete_instant-answer.result c.complete_instant-answer.new.state (instant_in c.args.flat.now draw bounds c.args.state.now j k) (step net c.args.state.now) c.complete_instant-answer.ensures.answered c.complete_instant-answer.ensures.left
    (step_is net c.args.state.now (law.Completes j k) is)

pub returns-in-Completes-clause-running : goal.returns-in-Completes-clause-running
returns-in-Completes-clause-running c =
    let n = c.args.flat.now in
    let limits = c.args.limits.now in
    let draw = draw_of c.args.streams.now.seed in
    let bounds = limits_in c.args.limits.now in
    let j = c.in-Completes.leaf.0 in
    let k = c.in-Completes.act in
    let runs = c.requires.running in
    let inside = (next_in_range n draw bounds c.args.state.now j k c.requires.running.last (ap acts_next (sym (c.next_of.ensures draw bounds) ∙ ap next_in c.in-Completes.is))).leaf in
    instant_runs n draw limits c.args.state.now c.complete_instant-answer.new.state j k (ready n limits c.args.state.now runs) (omega (arith, inside, runs.rows.each)) c.complete_instant-answer.result c.complete_instant-answer.ensures.answered c.complete_instant-answer.ensures.left

pub returns-in-Traps-clause-steps : goal.returns-in-Traps-clause-steps
returns-in-Traps-clause-steps c =
    let draw = draw_of c.args.streams.now.seed in
    let bounds = limits_in c.args.limits.now in
    let net = net_of c.args.flat.now draw bounds in
    let j = c.in-Traps.leaf.0 in
    let k = c.in-Traps.act in
    let is = sym (c.next_of.ensures draw bounds) ∙ ap next_in c.in-Traps.is in
    let same = step_is net c.args.state.now (law.TrapsAt j k c.in-Traps.trap) is in
    ends_like c.args.flat.now c.args.state.now c.trapped.result c.args.state.now.time (Trapped j k c.in-Traps.trap) (step net c.args.state.now)
    (c.trapped.ensures ∙ ap (λ (x : State). ending_in c.args.flat.now x.time (Trapped j k c.in-Traps.trap)) c.state.view_is)
    (ap (λ (x : Stepped × State). x.0) same)
    (ap (λ (x : Stepped × State). x.1.marking) same)

pub at_rest-requires-clause-settled : goal.at_rest-requires-clause-settled
at_rest-requires-clause-settled c =
    let n = c.args.flat.now in
    let draw = draw_of c.args.streams.now.seed in
    let bounds = limits_in c.args.limits.now in
    let s = c.args.state.now in
    let is = sym (c.next_of.ensures draw bounds) ∙ ap next_in c.in-Stable.is in
    (settled n.parts s.last s.marking (next_is n draw bounds s s.marking c.is_network.ensures.network refl s.last refl c.requires.running.last ∙ is))

pub touch-requires-clause-leaf : goal.touch-requires-clause-leaf
touch-requires-clause-leaf c =
    let draw = draw_of c.args.streams.now.seed in
    let bounds = limits_in c.args.limits.now in
    (next_in_range c.args.flat.now draw bounds c.args.state.now c.in-Completes.leaf.0 c.in-Completes.act c.requires.running.last (ap acts_next (sym (c.next_of.ensures draw bounds) ∙ ap next_in c.in-Completes.is))).leaf

pub touch-requires-clause-stable : goal.touch-requires-clause-stable
touch-requires-clause-stable c =
    let n = c.args.flat.now in
    let draw = draw_of c.args.streams.now.seed in
    let bounds = limits_in c.args.limits.now in
    let u = c.args.state.now in
    let marking = c.requires.running.marking in
    let stable = c.requires.running.stable in
    ap length (c.deref.ensures.value ∙ ap (λ (x : State). x.stable) c.state-in-Completes.view_is) ∙ ap (λ (x : State). length x.stable) c.complete_instant-answer.ensures.left
    ∙ (instant_sized n draw bounds u c.in-Completes.leaf.0 c.in-Completes.act (length n.initial) marking stable).1

pub touch-requires-clause-marking : goal.touch-requires-clause-marking
touch-requires-clause-marking c =
    let n = c.args.flat.now in
    let draw = draw_of c.args.streams.now.seed in
    let bounds = limits_in c.args.limits.now in
    let u = c.args.state.now in
    let marking = c.requires.running.marking in
    let stable = c.requires.running.stable in
    ap length (c.deref-in-Completes.ensures.value ∙ ap (λ (x : State). x.marking) c.state-in-Completes.view_is) ∙ ap (λ (x : State). length x.marking) c.complete_instant-answer.ensures.left
    ∙ (instant_sized n draw bounds u c.in-Completes.leaf.0 c.in-Completes.act (length n.initial) marking stable).0

pub returns-in-Completes-clause-known : goal.returns-in-Completes-clause-known
returns-in-Completes-clause-known c =
    let n = c.args.flat.now in
    let draw = draw_of c.args.streams.now.seed in
    let bounds = limits_in c.args.limits.now in
    let j = c.in-Completes.leaf.0 in
    let k = c.in-Completes.act in
    let u = c.args.state.now in
    let v = c.complete_instant-answer.new.state in
    let inside = (next_in_range n draw bounds c.args.state.now j k c.requires.running.last (ap acts_next (sym (c.next_of.ensures draw bounds) ∙ ap next_in c.in-Completes.is))).leaf in
    if_answered c.complete_instant-answer.result n (instant_in n draw bounds u j k).0 _ c.complete_instant-answer.ensures.answered
    (λ t e. instant_known n draw bounds c.args.wakes.now c.is_network.ensures.laid j k inside v c.deref.result.now c.deref-in-Completes.result.now c.args.stale.now c.touch.new.stale
    (c.deref.ensures.value ∙ ap (λ (x : State). x.stable) c.state-in-Completes.view_is) (c.deref-in-Completes.ensures.value ∙ ap (λ (x : State). x.marking) c.state-in-Completes.view_is)
    c.requires.known.woken c.requires.known.flags c.touch.ensures.own c.touch.ensures.awake c.touch.ensures.touched
    c.args.state.now u t c.requires.running.marking refl c.requires.known c.complete_instant-answer.ensures.left e)
