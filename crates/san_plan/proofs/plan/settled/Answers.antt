use Rattle.std.proofs.Common.{refl}
use Rattle.san_plan.proofs.plan.settled.Goals as goal

pub returns-clause-is : goal.returns-clause-is
returns-clause-is c first = refl

pub returns-clause-fits : goal.returns-clause-fits
returns-clause-fits c p = record { kind = tt; time = c.requires }
