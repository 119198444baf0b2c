use Rattle.san_core.specs.Machines.{machine_by}
use Rattle.san_core.proofs.Knowing.{known}
use Rattle.san_core.proofs.Resuming.{pieces_seen, starts_seen}
use Rattle.san_core.proofs.machine.Machine.resume.Goals as goal

pub returns-clause-starts : goal.returns-clause-starts
returns-clause-starts c = starts_seen (machine_by c.self.inside.flat c.self.inside.seed c.self.inside.limits c.self.inside.start c.self.inside.held c.self.inside.events.items c.self.inside.taken c.self.inside.spare) c.args.self c.self.view_is c.self.invariant.follows (known c.get.result.now c.self.inside.flat c.get.ensures c.is_network.ensures.network c.is_network.ensures.lawful c.is_network.ensures.laid c.is_network.ensures.shared c.is_network.ensures.private) c.requires c.into_start.result c.into_start.ensures

pub returns-clause-pieces : goal.returns-clause-pieces
returns-clause-pieces c = pieces_seen (machine_by c.self.inside.flat c.self.inside.seed c.self.inside.limits c.self.inside.start c.self.inside.held c.self.inside.events.items c.self.inside.taken c.self.inside.spare) c.args.self c.self.view_is c.self.invariant.follows (known c.get.result.now c.self.inside.flat c.get.ensures c.is_network.ensures.network c.is_network.ensures.lawful c.is_network.ensures.laid c.is_network.ensures.shared c.is_network.ensures.private) c.requires c.into_start.result c.into_start.ensures
