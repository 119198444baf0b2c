use Rattle.std.proofs.Common.{ap, arith, map, sym, ◌∙◌}
use Rattle.san_base.specs.declared.limits.Limits.{Limits}
use Rattle.san_decide.specs.Booked.{part_at}
use Rattle.san_speculation.specs.Speculating.{claim_in}
use Rattle.san_speculation.proofs.Claimings.{free_claimed, free_plan, own_plan}
use Rattle.san_speculation.proofs.claiming.free.Goals as goal

pub returns-then-is_claimed-clause-time : goal.returns-then-is_claimed-clause-time
returns-then-is_claimed-clause-time c = free_claimed c.args.machine.now c.args.ahead.now (map claim_in c.args.claims.now) c.args.leaf.0 (sym c.is_claimed.ensures ∙ c.if-is_claimed.true)

pub returns-clause-time : goal.returns-clause-time
returns-clause-time c = free_plan c.args.machine.now c.args.ahead.now (map claim_in c.args.claims.now) c.args.leaf.0 (part_at c.args.machine.now.network c.args.leaf.0).first.0 c.next_plan.result c.next_plan.ensures.is (sym c.is_claimed.ensures ∙ c.if-is_claimed.false) (let window = ap (λ (l : Limits). l.window) c.limits.ensures in omega (arith, c.if-len-limits.false, c.len.ensures, window))

pub returns-clause-plan : goal.returns-clause-plan
returns-clause-plan c = own_plan c.args.machine.now c.args.ahead.now (map claim_in c.args.claims.now) c.args.leaf.0 c.next_plan.result c.next_plan.ensures.is c.next_plan.ensures.fits
