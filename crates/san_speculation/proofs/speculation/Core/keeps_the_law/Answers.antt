use Rattle.std.proofs.Common.{◌≡◌, ap, refl, subst}
use Rattle.san_core.specs.Machines.{FollowsRun, core_in}
use Rattle.san_speculation.specs.Speculating.{CoreValue, IsReplayed}
use Rattle.san_speculation.proofs.Keeping.{keeps_the_law, run_seen}
use Rattle.san_speculation.proofs.Speculated.{is_run}
use Rattle.san_speculation.proofs.speculation.Core.keeps_the_law.Goals as goal

pub returns-clause-replayed : goal.returns-clause-replayed
returns-clause-replayed c = subst IsReplayed c.self.view_is c.self.invariant.0

pub returns-clause-machine : goal.returns-clause-machine
returns-clause-machine c = subst (λ (x : CoreValue). FollowsRun x.machine) c.self.view_is c.follows.ensures

pub returns-clause-committed : goal.returns-clause-committed
returns-clause-committed c = subst (λ (x : CoreValue). (x.book.held ≡ core_in x.machine) × (x.book.taken ≡ x.machine.taken)) c.self.view_is (refl, refl)

pub returns-clause-law : goal.returns-clause-law
returns-clause-law c r =
    let is = ap (λ (x : CoreValue). x.machine) c.self.view_is in
    let run = run_seen c.self.inside.machine c.args.self.now is (is_run c.network.result.now c.self.inside.machine.network c.network.ensures c.is_network.ensures.network c.is_network.ensures.lawful c.is_network.ensures.laid c.is_network.ensures.shared c.is_network.ensures.private) in
    keeps_the_law c.args.self.now (subst (λ (x : CoreValue). FollowsRun x.machine) c.self.view_is c.follows.ensures) run r
