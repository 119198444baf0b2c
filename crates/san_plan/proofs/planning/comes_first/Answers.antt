use Rattle.std.proofs.Common.{ℕ, ap, false, length, subst, sym, ◌+◌, ◌||◌, ◌∙◌, ◌≡◌, ◌≤◌}
use Rattle.std.specs.Option.{option_map}
use Rattle.std.specs.Prelude.{IfSome}
use Rattle.san_base.specs.declared.limits.Limits.{Limits}
use Rattle.san_base.specs.declared.limits.TheConstants.{MAX_ACTS}
use Rattle.san_book.specs.Plans.{is_leaf}
use Rattle.san_core.specs.Machines.{core_in}
use Rattle.san_decide.specs.Booked.{part_at}
use Rattle.san_law.specs.Core as law
use Rattle.san_law.specs.Core.{leaf_of}
use Rattle.san_law.specs.Order.{Order, flag}
use Rattle.san_law.specs.Piece.{LeafState}
use Rattle.san_net.specs.Laid.{IsNetwork}
use Rattle.san_net.specs.declared.part.Part.{Part}
use Rattle.san_plan.specs.Plans.{IsFit, RowStands, plan_in}
use Rattle.san_plan.specs.inner.Waits.{waits}
use Rattle.san_plan.proofs.Planned.{acts_few, part_is_at, row_by_none, waits_first}
use Rattle.san_plan.proofs.planning.comes_first.Goals as goal

pub returns-then-settles-clause-fits : goal.returns-then-settles-clause-fits
returns-then-settles-clause-fits c = c.settled.ensures.fits (part_at c.args.machine.now.network c.args.leaf.0)

pub returns-then-is_stale-clause-fits : goal.returns-then-is_stale-clause-fits
returns-then-is_stale-clause-fits c = c.renewed.ensures.fits (part_at c.args.machine.now.network c.args.leaf.0)

pub waits-requires-clause-row : goal.waits-requires-clause-row
waits-requires-clause-row c =
    let m = c.args.machine.now in
    let j = c.args.leaf.0 in
    let here = subst IsNetwork c.network.ensures c.is_network.ensures.network in
    let part : c.get.result.now ≡ part_at m.network j = c.get.ensures ∙ part_is_at c.network-2.result.now m.network j c.part.result.now c.network-2.ensures c.part.ensures in
    let state : c.get-2.result.now ≡ leaf_of (core_in m) j = c.get-2.ensures ∙ (c.state.ensures ∙ ap (λ (x : law.Core). leaf_of x j) c.follows.ensures.held) in
    subst (λ (p : Part). RowStands p c.get-2.result.now.row) (sym part)
    (subst (λ (s : LeafState). RowStands (part_at m.network j) s.row) (sym state) (row_by_none m c.args.ahead.now here j c.requires.plannable c.requires.none))

pub waits-requires-clause-few : goal.waits-requires-clause-few
waits-requires-clause-few c =
    let m = c.args.machine.now in
    let j = c.args.leaf.0 in
    let here = subst IsNetwork c.network.ensures c.is_network.ensures.network in
    let part : c.get.result.now ≡ part_at m.network j = c.get.ensures ∙ part_is_at c.network-2.result.now m.network j c.part.result.now c.network-2.ensures c.part.ensures in
    subst (λ (p : Part). p.first.0 + length p.atomic.acts ≤ MAX_ACTS) (sym part) (acts_few m.network here m.seed m.limits j c.requires.plannable.part)

pub returns-clause-is : goal.returns-clause-is
returns-clause-is c =
    let m = c.args.machine.now in
    let j = c.args.leaf.0 in
    let lines = c.args.ahead.now.lines in
    let o = (core_in m).order in
    let part : c.get.result.now ≡ part_at m.network j = c.get.ensures ∙ part_is_at c.network-2.result.now m.network j c.part.result.now c.network-2.ensures c.part.ensures in
    let state : c.get-2.result.now ≡ leaf_of (core_in m) j = c.get-2.ensures ∙ (c.state.ensures ∙ ap (λ (x : law.Core). leaf_of x j) c.follows.ensures.held) in
    let order : c.order-order.result.now.order ≡ o = c.order-order.ensures ∙ ap (λ (x : law.Core). x.order) c.follows.ensures.held in
    let time : c.time-time.result.0 ≡ o.time = c.time-time.ensures ∙ ap (λ (x : Order). x.time) order in
    let unsettled : (is_leaf j o.going || flag o.unsettled j) ≡ false = ap (λ (x : Order). is_leaf j x.going || flag x.unsettled j) (sym order) ∙ (sym c.settles.ensures ∙ c.if-settles.false) in
    let stale : flag o.stale j ≡ false = ap (λ (x : Order). flag x.stale j) (sym order) ∙ (sym c.is_stale.ensures ∙ c.if-is_stale.false) in
    ap (λ (p : Part). option_map (plan_in p.first.0) c.waits.result) (sym part)
    ∙ (c.waits.ensures.is
    ∙ (ap (λ (p : Part). waits p lines c.limits.result.horizon.0 c.time-time.result.0 c.get-2.result.now) part
    ∙ (ap (λ (l : Limits). waits (part_at m.network j) lines l.horizon.0 c.time-time.result.0 c.get-2.result.now) c.limits.ensures
    ∙ (ap (λ (t : ℕ). waits (part_at m.network j) lines m.limits.horizon.0 t c.get-2.result.now) time
    ∙ (ap (waits (part_at m.network j) lines m.limits.horizon.0 o.time) state
    ∙ waits_first j (part_at m.network j) lines m.limits.horizon.0 o (leaf_of (core_in m) j) unsettled stale)))))

pub returns-clause-fits : goal.returns-clause-fits
returns-clause-fits c =
    let m = c.args.machine.now in
    let j = c.args.leaf.0 in
    let part : c.get.result.now ≡ part_at m.network j = c.get.ensures ∙ part_is_at c.network-2.result.now m.network j c.part.result.now c.network-2.ensures c.part.ensures in
    subst (λ (p : Part). IfSome c.waits.result (IsFit p)) part c.waits.ensures.fits
