use Rattle.std.proofs.Common.{subst, ◌≡◌}
use Rattle.san_base.specs.declared.limits.Limits as bounds
use Rattle.san_core.specs.Committed.{StartsRun}
use Rattle.san_net.specs.Runs.{limits_in, net_at}
use Rattle.san_speculation.specs.Speculating.{CoreValue}
use Rattle.san_speculation.proofs.speculation.Core.resume.Goals as goal

pub returns-clause-starts : goal.returns-clause-starts
returns-clause-starts c =
    subst (λ (x : CoreValue). (limits : bounds.Limits) → limits_in limits ≡ limits_in x.machine.limits → StartsRun (net_at x.machine.network x.machine.seed limits) x.machine.network c.resume.result.start) c.self.view_is c.resume.ensures.starts
