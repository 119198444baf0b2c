use Rattle.std.proofs.Common.{◌∙◌, ◌+◌, ◌<◌, refl, sym, ap, subst, ℕ, List, length, Some, Result}
use Rattle.std.specs.Option.{option_map}
use Rattle.san_base.specs.declared.ending.Trap.{Trap}
use Rattle.san_base.specs.declared.numbers.LeafId.{LeafId}
use Rattle.san_draw.specs.Key.{draw_of}
use Rattle.san_law.specs.Renewal as law
use Rattle.san_law.specs.State.{State}
use Rattle.san_law.specs.Step.{End, Stepped, Trapped, at_due, at_rest}
use Rattle.san_net.specs.Network.{net_of}
use Rattle.san_seq.specs.inner.Dues.{due_in}
use Rattle.san_net.specs.Runs.{ending_in, limits_in}
use Rattle.san_seq.specs.inner.Rows.{renewal_by, row_at}
use Rattle.san_seq.specs.inner.Running.{IsDrawn, Steps, with_rows}
use Rattle.san_seq.proofs.RangeLemmas.{due_within, rows_small}
use Rattle.san_seq.specs.inner.Known.{AreAsleep, AreQuiet, HaveSame}
use Rattle.san_seq.proofs.KnownLemmas.{are_fresh, quiet_after}
use Rattle.san_seq.proofs.RunningLemmas.{renewed_drawn}
use Rattle.san_seq.proofs.WithinLemmas.{fault_within}
use Rattle.san_seq.proofs.SteppingLemmas.{ends_like}
use Rattle.san_seq.proofs.step.at_rest.Goals as goal

pub first_due-requires-clause-small : goal.first_due-requires-clause-small
first_due-requires-clause-small c =
    let drawn = renewed_drawn c.args.flat.now c.args.limits.now c.args.state.now c.renew.new.state.rows c.requires.running c.renew.ensures.sized c.renew.ensures.like c.renew.ensures.numbers in
    λ j. rows_small c.args.flat.now c.renew.new.state.rows c.is_network.ensures.network drawn.rows j

pub at_due-requires-clause-leaf : goal.at_due-requires-clause-leaf
at_due-requires-clause-leaf c =
    let least = sym c.first_due.ensures.due ∙ ap (option_map due_in) c.in-Some.is in
    subst (λ (s : State). c.in-Some.due.leaf.0 < length s.rows) (sym c.first_due.ensures.same) (due_within c.renew.new.state.rows (due_in c.in-Some.due) least).0

pub at_due-requires-clause-act : goal.at_due-requires-clause-act
at_due-requires-clause-act c =
    let least = sym c.first_due.ensures.due ∙ ap (option_map due_in) c.in-Some.is in
    subst (λ (s : State). c.in-Some.due.act < length (row_at s.rows c.in-Some.due.leaf.0).timers) (sym c.first_due.ensures.same) (due_within c.renew.new.state.rows (due_in c.in-Some.due) least).1

pub at_due-requires-clause-drawn : goal.at_due-requires-clause-drawn
at_due-requires-clause-drawn c =
    subst (λ (s : State). IsDrawn c.args.flat.now c.args.limits.now (s.count + 1) s) (sym (c.first_due.ensures.same ∙ c.renew.ensures.left))
    (renewed_drawn c.args.flat.now c.args.limits.now c.args.state.now c.renew.new.state.rows c.requires.running c.renew.ensures.sized c.renew.ensures.like c.renew.ensures.numbers)

pub returns-in-Some-clause-steps : goal.returns-in-Some-clause-steps
returns-in-Some-clause-steps c =
    let net = net_of c.args.flat.now (draw_of c.args.streams.now.seed) (limits_in c.args.limits.now) in
    let rows = c.renew.new.state.rows in
    let same = c.first_due.ensures.same in
    let least = sym c.first_due.ensures.due ∙ ap (option_map due_in) c.in-Some.is in
    let fresh = sym (c.renew.ensures.rows (limits_in c.args.limits.now)) ∙ ap (λ (r : Result (Unit {0}) (LeafId × ℕ × Trap)). renewal_by r rows) c.in-Ok.is in
    let seed = ap (λ x. x.seed) c.renew.ensures.streams in
    subst (λ (x : Stepped × State). Steps c.args.flat.now c.at_due.result c.at_due.new.state x) (ap (at_due net c.args.state.now rows) (sym least) ∙ ap (at_rest net c.args.state.now) (sym fresh))
    (subst (λ (s : ℕ). Steps c.args.flat.now c.at_due.result c.at_due.new.state (at_due (net_of c.args.flat.now (draw_of s) (limits_in c.args.limits.now)) c.args.state.now rows (Some (due_in c.in-Some.due)))) seed
    (subst (λ (t : State). Steps c.args.flat.now c.at_due.result c.at_due.new.state (at_due (net_of c.args.flat.now (draw_of c.renew.new.streams.seed) (limits_in c.args.limits.now)) c.args.state.now t.rows (Some (due_in c.in-Some.due)))) same
    (c.at_due.ensures.steps c.args.state.now (ap (λ (t : State). with_rows t.rows c.args.state.now) same ∙ sym (same ∙ c.renew.ensures.left)))))

pub returns-in-None-clause-steps : goal.returns-in-None-clause-steps
returns-in-None-clause-steps c =
    let net = net_of c.args.flat.now (draw_of c.args.streams.now.seed) (limits_in c.args.limits.now) in
    let rows = c.renew.new.state.rows in
    let least = sym c.first_due.ensures.due ∙ ap (option_map due_in) c.in-None.is in
    let fresh = sym (c.renew.ensures.rows (limits_in c.args.limits.now)) ∙ ap (λ (r : Result (Unit {0}) (LeafId × ℕ × Trap)). renewal_by r rows) c.in-Ok.is in
    let over = ap (at_rest net c.args.state.now) fresh ∙ ap (at_due net c.args.state.now rows) least in
    ends_like c.args.flat.now c.first_due.new.state _ c.args.limits.now.horizon.0 End (at_rest net c.args.state.now (law.renewed_from net c.args.state.now 0 c.args.state.now.rows)) refl
    (ap (λ (x : Stepped × State). x.0) (sym over))
    (ap (λ (x : State). x.marking) (c.first_due.ensures.same ∙ c.renew.ensures.left) ∙ ap (λ (x : Stepped × State). x.1.marking) (sym over))

pub returns-in-Err-clause-steps : goal.returns-in-Err-clause-steps
returns-in-Err-clause-steps c =
    let net = net_of c.args.flat.now (draw_of c.args.streams.now.seed) (limits_in c.args.limits.now) in
    let fault = sym (c.renew.ensures.rows (limits_in c.args.limits.now)) ∙ ap (λ (r : Result (Unit {0}) (LeafId × ℕ × Trap)). renewal_by r c.renew.new.state.rows) c.in-Err.is in
    let over = ap (at_rest net c.args.state.now) fault in
    ends_like c.args.flat.now c.renew.new.state c.trapped.result c.args.state.now.time (Trapped c.in-Err.leaf.0 c.in-Err.act c.in-Err.trap) (at_rest net c.args.state.now (law.renewed_from net c.args.state.now 0 c.args.state.now.rows))
    (c.trapped.ensures ∙ ap (λ (x : State). ending_in c.args.flat.now x.time (Trapped c.in-Err.leaf.0 c.in-Err.act c.in-Err.trap)) (c.state.view_is ∙ c.renew.ensures.left))
    (ap (λ (x : Stepped × State). x.0) (sym over))
    (ap (λ (x : State). x.marking) c.renew.ensures.left ∙ ap (λ (x : Stepped × State). x.1.marking) (sym over))

pub renew-requires-clause-idle : goal.renew-requires-clause-idle
renew-requires-clause-idle c =
    let draw = draw_of c.args.streams.now.seed in
    let bounds = limits_in c.args.limits.now in
    are_fresh c.args.flat.now draw bounds c.args.wakes.now c.args.stale.now c.args.state.now (c.is_network.ensures.lawful draw bounds) c.requires.known

pub at_due-requires-clause-same : goal.at_due-requires-clause-same
at_due-requires-clause-same c =
    subst (λ (s : State). HaveSame c.args.stale.now.places s.stable s.marking) (sym (c.first_due.ensures.same ∙ c.renew.ensures.left)) c.requires.known.places

pub at_due-requires-clause-asleep : goal.at_due-requires-clause-asleep
at_due-requires-clause-asleep c =
    subst (λ (s : State). AreAsleep c.args.flat.now c.args.stale.now.awake s.marking) (sym (c.first_due.ensures.same ∙ c.renew.ensures.left)) c.requires.known.asleep

pub at_due-requires-clause-quiet : goal.at_due-requires-clause-quiet
at_due-requires-clause-quiet c =
    let n = c.args.flat.now in
    let draw = draw_of c.args.streams.now.seed in
    let bounds = limits_in c.args.limits.now in
    let rows = c.renew.new.state.rows in
    let fresh = sym (c.renew.ensures.rows bounds) ∙ ap (λ (r : Result (Unit {0}) (LeafId × ℕ × Trap)). renewal_by r rows) c.in-Ok.is in
    subst (λ (s : State). AreQuiet n.parts s.marking s.rows) (sym c.first_due.ensures.same)
    (subst (λ (m : List ℕ). AreQuiet n.parts m rows) (ap (λ (s : State). s.marking) (sym c.renew.ensures.left))
    (quiet_after n draw bounds (c.is_network.ensures.lawful draw bounds) c.args.state.now rows c.requires.running.rows.each fresh c.requires.settled))

pub trapped-requires : goal.trapped-requires
trapped-requires c =
    let draw = draw_of c.args.streams.now.seed in
    let bounds = limits_in c.args.limits.now in
    fault_within c.args.flat.now draw bounds c.args.state.now c.in-Err.leaf.0 c.in-Err.act c.in-Err.trap c.requires.running.rows.each
    (sym (c.renew.ensures.rows bounds) ∙ ap (λ (r : Result (Unit {0}) (LeafId × ℕ × Trap)). renewal_by r c.renew.new.state.rows) c.in-Err.is)
