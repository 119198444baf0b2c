use Rattle.std.proofs.Common.{ap, arith, ◌≡◌}
use Rattle.san_speculation.specs.Speculating.{CoreValue}
use Rattle.san_speculation.proofs.Keeping.{rollbacks_are_few, run_seen}
use Rattle.san_speculation.proofs.Speculated.{is_run}
use Rattle.san_speculation.proofs.speculation.Core.rollbacks.Goals as goal

pub returns-clause-count : goal.returns-clause-count
returns-clause-count c = ap (λ (x : CoreValue). x.book.rollbacks) c.self.view_is

pub returns-clause-few : goal.returns-clause-few
returns-clause-few c =
    let is = ap (λ (x : CoreValue). x.machine) c.self.view_is in
    let run = run_seen c.self.inside.machine c.args.self.now is (is_run c.network.result.now c.self.inside.machine.network c.network.ensures c.is_network.ensures.network c.is_network.ensures.lawful c.is_network.ensures.laid c.is_network.ensures.shared c.is_network.ensures.private) in
    let few = rollbacks_are_few c.args.self.now c.keeps_the_law.ensures.machine run c.keeps_the_law.ensures.replayed in
    let same : c.self.inside.rollbacks ≡ c.args.self.now.book.rollbacks = ap (λ (x : CoreValue). x.book.rollbacks) c.self.view_is in
    omega (arith, few, same)
