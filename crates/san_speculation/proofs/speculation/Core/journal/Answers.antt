use Rattle.std.proofs.Common.{ap, map, ◌∙◌}
use Rattle.san_speculation.specs.Speculating.{CoreValue, step_in}
use Rattle.san_speculation.proofs.Keeping.{journal_is_few, run_seen}
use Rattle.san_speculation.proofs.Speculated.{is_run}
use Rattle.san_speculation.proofs.speculation.Core.journal.Goals as goal

pub returns-clause-steps : goal.returns-clause-steps
returns-clause-steps c = ap (map step_in) c.as_slice.ensures.value ∙ ap (λ (x : CoreValue). x.book.journal) c.self.view_is

pub returns-clause-few : goal.returns-clause-few
returns-clause-few c =
    let is = ap (λ (x : CoreValue). x.machine) c.self.view_is in
    let run = run_seen c.self.inside.machine c.args.self.now is (is_run c.network.result.now c.self.inside.machine.network c.network.ensures c.is_network.ensures.network c.is_network.ensures.lawful c.is_network.ensures.laid c.is_network.ensures.shared c.is_network.ensures.private) in
    journal_is_few c.args.self.now c.keeps_the_law.ensures.machine run c.keeps_the_law.ensures.replayed c.as_slice.result.now (ap (map step_in) c.as_slice.ensures.value ∙ ap (λ (x : CoreValue). x.book.journal) c.self.view_is)
