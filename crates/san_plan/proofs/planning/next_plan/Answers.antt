use Rattle.std.proofs.Common.{ap, subst, sym, ◌∙◌}
use Rattle.std.specs.Option.{option_map}
use Rattle.std.specs.Prelude.{IfSome}
use Rattle.san_net.specs.Laid.{IsNetwork}
use Rattle.san_net.specs.declared.part.Part.{Part}
use Rattle.san_base.specs.declared.limits.Limits.{Limits}
use Rattle.san_plan.specs.Plans.{IsFit, plan_in}
use Rattle.san_plan.specs.inner.Waits.{comes_after}
use Rattle.san_plan.proofs.Planned.{plan_by_last, plan_by_none, row_by_last}
use Rattle.san_plan.proofs.planning.next_plan.Goals as goal

pub last-requires : goal.last-requires
last-requires c = c.requires.chain

pub comes_after-requires-clause-row : goal.comes_after-requires-clause-row
comes_after-requires-clause-row c = row_by_last c.args.machine.now c.args.ahead.now (subst IsNetwork c.network.ensures c.is_network.ensures.network) c.args.leaf.0 c.requires c.in-Some.piece.now c.in-Some.ensures

pub returns-in-Some-clause-is : goal.returns-in-Some-clause-is
returns-in-Some-clause-is c =
    let here = subst IsNetwork c.network.ensures c.is_network.ensures.network in
    let part = c.requires.last c.in-Some.piece.now c.in-Some.ensures in
    ap (λ (p : Part). option_map (plan_in p.first.0) c.comes_after.result) (sym part)
    ∙ (c.comes_after.ensures.is
    ∙ (ap (λ (l : Limits). comes_after c.args.ahead.now.lines l.horizon.0 c.in-Some.piece.now) c.limits.ensures
    ∙ plan_by_last c.args.machine.now c.args.ahead.now here c.args.leaf.0 c.requires c.in-Some.piece.now c.in-Some.ensures))

pub returns-in-Some-clause-fits : goal.returns-in-Some-clause-fits
returns-in-Some-clause-fits c = subst (λ (p : Part). IfSome c.comes_after.result (IsFit p)) (c.requires.last c.in-Some.piece.now c.in-Some.ensures) c.comes_after.ensures.fits

pub returns-in-None-clause-is : goal.returns-in-None-clause-is
returns-in-None-clause-is c = c.comes_first.ensures.is ∙ plan_by_none c.args.machine.now c.args.ahead.now (subst IsNetwork c.network.ensures c.is_network.ensures.network) c.args.leaf.0 c.requires c.in-None.ensures
