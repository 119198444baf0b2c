use Rattle.std.proofs.Common.{◌∙◌, ◌≡◌, sym, ap, subst, ℕ, Result, Ok, Err}
use Rattle.san_base.specs.declared.ending.Ending.{Ending}
use Rattle.san_base.specs.declared.ending.Event.{Event}
use Rattle.san_base.specs.declared.ending.Trap.{Trap}
use Rattle.san_base.specs.declared.numbers.ActId.{ActId}
use Rattle.san_draw.specs.Key.{draw_of}
use Rattle.san_law.specs.State.{State}
use Rattle.san_law.specs.Step.{Trapped}
use Rattle.san_net.specs.Network.{net_of}
use Rattle.san_seq.specs.inner.Completions.{completed_by}
use Rattle.san_seq.specs.inner.Rows.{AreRows, row_at}
use Rattle.san_seq.specs.inner.States.{complete_in}
use Rattle.san_net.specs.Runs.{ending_in}
use Rattle.san_seq.proofs.AnswerLemmas.{case_answered}
use Rattle.san_seq.proofs.CompletionLemmas.{written_over}
use Rattle.san_seq.proofs.StateLemmas.{completes, if_err, kept, left_is, done_in, traps}
use Rattle.san_seq.proofs.state.complete.Goals as goal

pub complete-case-requires-clause-rows : goal.complete-case-requires-clause-rows
complete-case-requires-clause-rows c = subst (λ (x : State). AreRows c.args.flat.now.parts x.rows) (sym c.state.view_is) c.requires.rows

pub returns-in-Ok-clause-answered : goal.returns-in-Ok-clause-answered
returns-in-Ok-clause-answered c = λ limits.
    let draw = draw_of c.args.streams.now.seed in
    let s = c.args.state.now in
    let m = c.complete-case.new.marking in
    let row = row_at c.complete-case.new.self c.args.leaf.0 in
    let case = c.in-Ok.case in
    ap (λ (x : State). (let e : Event = record { time = record { 0 = x.time }; act = c.act_of.result; case = case } in let r : Result Event Ending = Ok e in r)) c.state.view_is
    ∙ ap (λ (a : ActId). (let e : Event = record { time = record { 0 = s.time }; act = a; case = case } in let r : Result Event Ending = Ok e in r)) c.act_of.ensures
    ∙ case_answered c.args.flat.now s.time c.args.leaf.0 c.args.act (Ok case) (complete_in c.args.flat.now draw limits s c.args.burst c.args.leaf.0 c.args.act).0
    (completes (net_of c.args.flat.now draw limits) s c.args.burst c.args.leaf.0 c.args.act case m row
    (ap (λ (x : Result ℕ Trap). completed_by x m row) (sym c.in-Ok.is) ∙ c.complete-case.ensures.done limits
    ∙ done_in c.args.flat.now draw limits _ s c.as_mut_slice-marking.result.now c.args.leaf.0 c.args.act c.as_mut_slice-marking.ensures.value c.state.view_is)).0

pub returns-in-Ok-clause-left : goal.returns-in-Ok-clause-left
returns-in-Ok-clause-left c = λ limits.
    let draw = draw_of c.args.streams.now.seed in
    let s = c.args.state.now in
    let m = c.complete-case.new.marking in
    let row = row_at c.complete-case.new.self c.args.leaf.0 in
    left_is _ s c.args.burst c.args.leaf.0 _ m c.complete-case.new.self row (written_over _ m _ (c.complete-case.ensures.sized ∙ c.as_mut_slice-marking.ensures.len)) c.complete-case.ensures.others c.state.view_is
    ∙ (completes (net_of c.args.flat.now draw limits) s c.args.burst c.args.leaf.0 c.args.act c.in-Ok.case m row
    (ap (λ (x : Result ℕ Trap). completed_by x m row) (sym c.in-Ok.is) ∙ c.complete-case.ensures.done limits
    ∙ done_in c.args.flat.now draw limits _ s c.as_mut_slice-marking.result.now c.args.leaf.0 c.args.act c.as_mut_slice-marking.ensures.value c.state.view_is)).1

pub returns-in-Err-clause-answered : goal.returns-in-Err-clause-answered
returns-in-Err-clause-answered c = λ limits.
    let draw = draw_of c.args.streams.now.seed in
    let s = c.args.state.now in
    let m = c.complete-case.new.marking in
    let row = row_at c.complete-case.new.self c.args.leaf.0 in
    ap (λ (x : Ending). (let r : Result Event Ending = Err x in r)) (c.trapped.ensures ∙ ap (λ (x : State). ending_in c.args.flat.now x.time (Trapped c.args.leaf.0 c.args.act c.in-Err.trap)) c.state.view_is)
    ∙ case_answered c.args.flat.now s.time c.args.leaf.0 c.args.act (Err c.in-Err.trap) (complete_in c.args.flat.now draw limits s c.args.burst c.args.leaf.0 c.args.act).0
    (traps (net_of c.args.flat.now draw limits) s c.args.burst c.args.leaf.0 c.args.act c.in-Err.trap m row
    (ap (λ (x : Result ℕ Trap). completed_by x m row) (sym c.in-Err.is) ∙ c.complete-case.ensures.done limits
    ∙ done_in c.args.flat.now draw limits _ s c.as_mut_slice-marking.result.now c.args.leaf.0 c.args.act c.as_mut_slice-marking.ensures.value c.state.view_is)).0

pub returns-in-Err-clause-left : goal.returns-in-Err-clause-left
returns-in-Err-clause-left c = λ limits.
    let draw = draw_of c.args.streams.now.seed in
    let s = c.args.state.now in
    let m = c.complete-case.new.marking in
    let row = row_at c.complete-case.new.self c.args.leaf.0 in
    let still = if_err c.complete-case.result c.in-Err.trap (λ trap. (m ≡ c.as_mut_slice-marking.result.now) × (c.complete-case.new.self ≡ c.state.inside.rows)) c.in-Err.is c.complete-case.ensures.trap in
    kept _ s _ m c.complete-case.new.self (written_over _ m _ (c.complete-case.ensures.sized ∙ c.as_mut_slice-marking.ensures.len)) (still.0 ∙ c.as_mut_slice-marking.ensures.value) still.1 c.state.view_is
    ∙ (traps (net_of c.args.flat.now draw limits) s c.args.burst c.args.leaf.0 c.args.act c.in-Err.trap m row
    (ap (λ (x : Result ℕ Trap). completed_by x m row) (sym c.in-Err.is) ∙ c.complete-case.ensures.done limits
    ∙ done_in c.args.flat.now draw limits _ s c.as_mut_slice-marking.result.now c.args.leaf.0 c.args.act c.as_mut_slice-marking.ensures.value c.state.view_is)).1
