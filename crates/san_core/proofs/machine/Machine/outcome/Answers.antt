use Rattle.std.proofs.Common.{ap, ◌∙◌}
use Rattle.san_law.specs.Pieces.{outcome_of_core}
use Rattle.san_core.specs.Machines.{MachineValue, core_in, machine_by, net_in}
use Rattle.san_core.specs.Nets.{outcome_in}
use Rattle.san_core.proofs.Stopping.{outcome_told}
use Rattle.san_core.proofs.machine.Machine.outcome.Goals as goal

pub returns : goal.returns
returns c =
    c.ended.ensures ∙ (outcome_told (machine_by c.self.inside.flat c.self.inside.seed c.self.inside.limits c.self.inside.start c.self.inside.held c.self.inside.events.items c.self.inside.taken c.self.inside.spare) c.self.invariant.follows c.stopped.result c.need.result c.stopped.ensures c.need.ensures
    ∙ ap (λ (x : MachineValue). outcome_in x.network (outcome_of_core (net_in x) (core_in x))) c.self.view_is)
