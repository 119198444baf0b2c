use Rattle.std.proofs.Common.{Bool, not, subst, sym}
use Rattle.san_speculation.specs.inner.Claiming.{goes_with}
use Rattle.san_speculation.proofs.Claimings.{goes_by_need, goes_by_none}
use Rattle.san_speculation.proofs.claiming.goes_on.Goals as goal

pub returns-in-Some : goal.returns-in-Some
returns-in-Some c a = subst (λ (b : Bool). goes_with c.args.machine.now a (not b)) (sym c.is_full.ensures) (goes_by_need c.args.machine.now c.follows.ensures _ c.in-Some.ensures a)

pub returns-in-None : goal.returns-in-None
returns-in-None c a = goes_by_none c.args.machine.now c.follows.ensures c.in-None.ensures a
