use Rattle.std.proofs.Common.{refl}
use Rattle.san_plan.proofs.Waited.{fired_is}
use Rattle.san_plan.proofs.plan.fired.Goals as goal

pub returns-clause-is : goal.returns-clause-is
returns-clause-is c = fired_is c.args.part.now.first.0 c.args.due.1 c.args.due.0

pub returns-clause-fits : goal.returns-clause-fits
returns-clause-fits c = record { kind = c.requires.fits _ refl; time = c.requires.timely }
