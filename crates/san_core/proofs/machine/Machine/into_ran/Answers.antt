use Rattle.std.proofs.Common.{refl}
use Rattle.san_core.specs.Machines.{machine_by}
use Rattle.san_core.proofs.Knowing.{known}
use Rattle.san_core.proofs.WholeRuns.{whole_seen}
use Rattle.san_core.proofs.machine.Machine.into_ran.Goals as goal

pub returns : goal.returns
returns c = whole_seen (machine_by c.self.inside.flat c.self.inside.seed c.self.inside.limits c.self.inside.start c.self.inside.held c.self.inside.events.items c.self.inside.taken c.self.inside.spare) c.args.self c.self.view_is c.self.invariant.follows (known c.get.result.now c.self.inside.flat c.get.ensures c.is_network.ensures.network c.is_network.ensures.lawful c.is_network.ensures.laid c.is_network.ensures.shared c.is_network.ensures.private) c.requires.first c.has_a_stop_before_the_end.ensures c.self.inside.events.items c.args.ending c.into_tally.result refl c.into_tally.ensures c.requires.ended
