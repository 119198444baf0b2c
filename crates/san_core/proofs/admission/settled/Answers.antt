use Rattle.std.proofs.Common.{subst, Option}
use Rattle.std.specs.Prelude.{IfSome}
use Rattle.san_core.specs.declared.over.Over.{Over}
use Rattle.san_core.specs.inner.Stops.{TrapsIn}
use Rattle.san_core.proofs.admission.settled.Goals as goal

pub returns-in-Some-clause-of : goal.returns-in-Some-clause-of
returns-in-Some-clause-of c = subst (λ (o : Option Over). IfSome o (TrapsIn c.args.taking.leaf.0 c.args.taking.first.0)) c.in-Some.is (c.passing-passed.ensures.of c.args.taking.leaf.0 c.args.taking.first.0)
