use Rattle.std.proofs.Common.{◌∙◌, sym, ap, refl}
use Rattle.std.specs.Option.{option_map}
use Rattle.san_draw.specs.Key.{draw_of}
use Rattle.san_law.specs.State.{State}
use Rattle.san_law.specs.Step as law
use Rattle.san_net.specs.Runs.{ending_in, limits_in}
use Rattle.san_seq.specs.inner.States.{complete_in}
use Rattle.san_seq.specs.Outcomes.{event_or_ending}
use Rattle.san_seq.proofs.LimitLemmas.{timed_is}
use Rattle.san_seq.proofs.AnswerLemmas.{no_limit, stopped}
use Rattle.san_seq.proofs.state.complete_timed.Goals as goal

pub returns-in-None-clause-answered : goal.returns-in-None-clause-answered
returns-in-None-clause-answered c =
    let n = c.args.flat.now in
    let limits = limits_in c.args.limits.now in
    let none = no_limit n c.state.inside.time _ (sym (c.events_left.ensures n) ∙ c.in-None.is) in
    c.complete.ensures.answered limits
    ∙ ap (λ y. event_or_ending n y.0) (timed_is n (draw_of c.args.streams.now.seed) limits _ c.args.state.now c.args.leaf.0 c.args.act c.state.view_is none)

pub returns-in-None-clause-left : goal.returns-in-None-clause-left
returns-in-None-clause-left c =
    let n = c.args.flat.now in
    let limits = limits_in c.args.limits.now in
    let none = no_limit n c.state.inside.time _ (sym (c.events_left.ensures n) ∙ c.in-None.is) in
    c.complete.ensures.left limits ∙ ap (λ y. y.1) (timed_is n (draw_of c.args.streams.now.seed) limits _ c.args.state.now c.args.leaf.0 c.args.act c.state.view_is none)

pub returns-in-Some-clause-answered : goal.returns-in-Some-clause-answered
returns-in-Some-clause-answered c =
    let n = c.args.flat.now in
    let s = c.args.state.now in
    let limits = limits_in c.args.limits.now in
    let says = c.events_left.ensures n ∙ ap (λ (z : State). option_map (ending_in n z.time) (law.events_left limits.events z.count)) c.state.view_is in
    (stopped n s.time c.events_left.result (law.events_left limits.events s.count) s (complete_in n (draw_of c.args.streams.now.seed) limits s 0 c.args.leaf.0 c.args.act) c.in-Some.ending refl says c.in-Some.is).answered

pub returns-in-Some-clause-left : goal.returns-in-Some-clause-left
returns-in-Some-clause-left c =
    let n = c.args.flat.now in
    let s = c.args.state.now in
    let limits = limits_in c.args.limits.now in
    let says = c.events_left.ensures n ∙ ap (λ (z : State). option_map (ending_in n z.time) (law.events_left limits.events z.count)) c.state.view_is in
    (stopped n s.time c.events_left.result (law.events_left limits.events s.count) s (complete_in n (draw_of c.args.streams.now.seed) limits s 0 c.args.leaf.0 c.args.act) c.in-Some.ending refl says c.in-Some.is).left
