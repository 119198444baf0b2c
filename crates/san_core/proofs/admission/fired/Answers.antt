use Rattle.std.specs.Option.{option_map}
use Rattle.san_leaf.specs.Outcomes.{fault_in}
use Rattle.san_core.specs.inner.Admits.{over_in}
use Rattle.san_core.proofs.Firing.{rest_is}
use Rattle.san_core.proofs.admission.fired.Goals as goal

pub returns-clause-is : goal.returns-clause-is
returns-clause-is c = rest_is c.args.limits.now.burst c.args.limits.now.events c.args.taking.leaf.0 c.args.count c.args.completions (option_map (fault_in c.args.taking.first.0) c.args.fault) c.settled-passed.result.passed (option_map over_in c.settled-passed.result.over) c.if-completions-eq0.false c.settled-passed.ensures.is
