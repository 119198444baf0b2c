use Rattle.std.proofs.Common.{ap, ◌∙◌, sym}
use Rattle.san_leaf.specs.Outcomes.{outcome_in}
use Rattle.san_net.specs.Network.{net_of}
use Rattle.san_core.specs.Committed.{CommittedValue}
use Rattle.san_core.specs.inner.Steps.{counted_in, ended_by, put_in}
use Rattle.san_core.proofs.committed.Committed.take.Goals as goal

pub returns-in-None-clause-taken : goal.returns-in-None-clause-taken
returns-in-None-clause-taken c draw limits =
    let net = net_of c.args.flat.now draw limits in
    let made = outcome_in c.args.taking.first.0 c.args.outcome in
    let counted = counted_in c.args.self.now c.args.taking c.args.admission c.args.outcome in
    c.put.ensures.taken draw limits
    ∙ (ap (λ (v : CommittedValue). put_in net v c.args.taking made) c.count.ensures
    ∙ ap (ended_by net counted c.args.taking made) (sym c.in-None.is))
