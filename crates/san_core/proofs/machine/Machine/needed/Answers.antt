use Rattle.std.proofs.Common.{sym, ◌∙◌}
use Rattle.san_core.specs.Machines.{machine_by}
use Rattle.san_core.proofs.Knowing.{end_by, fire_by, fire_within, known, refresh_by, refresh_within, settle_by, settle_within}
use Rattle.san_core.proofs.machine.Machine.needed.Goals as goal

pub taking-requires : goal.taking-requires
taking-requires c = settle_within (machine_by c.self.inside.flat c.self.inside.seed c.self.inside.limits c.self.inside.start c.self.inside.held c.self.inside.events.items c.self.inside.taken c.self.inside.spare) c.args.self.now c.self.view_is c.self.invariant.follows (known c.get.result.now c.self.inside.flat c.get.ensures c.is_network.ensures.network c.is_network.ensures.lawful c.is_network.ensures.laid c.is_network.ensures.shared c.is_network.ensures.private) c.in-Settle.leaf (sym c.in-Settle.is ∙ c.need.ensures)

pub taking-requires-in-Refresh : goal.taking-requires-in-Refresh
taking-requires-in-Refresh c = refresh_within (machine_by c.self.inside.flat c.self.inside.seed c.self.inside.limits c.self.inside.start c.self.inside.held c.self.inside.events.items c.self.inside.taken c.self.inside.spare) c.args.self.now c.self.view_is c.self.invariant.follows (known c.get.result.now c.self.inside.flat c.get.ensures c.is_network.ensures.network c.is_network.ensures.lawful c.is_network.ensures.laid c.is_network.ensures.shared c.is_network.ensures.private) c.in-Refresh.leaf (sym c.in-Refresh.is ∙ c.need.ensures)

pub taking-requires-in-Fire : goal.taking-requires-in-Fire
taking-requires-in-Fire c = fire_within (machine_by c.self.inside.flat c.self.inside.seed c.self.inside.limits c.self.inside.start c.self.inside.held c.self.inside.events.items c.self.inside.taken c.self.inside.spare) c.args.self.now c.self.view_is c.self.invariant.follows (known c.get.result.now c.self.inside.flat c.get.ensures c.is_network.ensures.network c.is_network.ensures.lawful c.is_network.ensures.laid c.is_network.ensures.shared c.is_network.ensures.private) c.in-Fire.leaf c.in-Fire.act c.in-Fire.time (sym c.in-Fire.is ∙ c.need.ensures)

pub returns-in-Settle : goal.returns-in-Settle
returns-in-Settle c = settle_by (machine_by c.self.inside.flat c.self.inside.seed c.self.inside.limits c.self.inside.start c.self.inside.held c.self.inside.events.items c.self.inside.taken c.self.inside.spare) c.args.self.now c.self.view_is c.self.invariant.follows (known c.get.result.now c.self.inside.flat c.get.ensures c.is_network.ensures.network c.is_network.ensures.lawful c.is_network.ensures.laid c.is_network.ensures.shared c.is_network.ensures.private) c.in-Settle.leaf c.time.result c.taking.result (sym c.in-Settle.is ∙ c.need.ensures) c.time.ensures c.taking.ensures.of c.taking.ensures.first

pub returns-in-Refresh : goal.returns-in-Refresh
returns-in-Refresh c = refresh_by (machine_by c.self.inside.flat c.self.inside.seed c.self.inside.limits c.self.inside.start c.self.inside.held c.self.inside.events.items c.self.inside.taken c.self.inside.spare) c.args.self.now c.self.view_is c.self.invariant.follows (known c.get.result.now c.self.inside.flat c.get.ensures c.is_network.ensures.network c.is_network.ensures.lawful c.is_network.ensures.laid c.is_network.ensures.shared c.is_network.ensures.private) c.in-Refresh.leaf c.time-in-Refresh.result c.taking-in-Refresh.result (sym c.in-Refresh.is ∙ c.need.ensures) c.time-in-Refresh.ensures c.taking-in-Refresh.ensures.of c.taking-in-Refresh.ensures.first

pub returns-in-Fire : goal.returns-in-Fire
returns-in-Fire c = fire_by (machine_by c.self.inside.flat c.self.inside.seed c.self.inside.limits c.self.inside.start c.self.inside.held c.self.inside.events.items c.self.inside.taken c.self.inside.spare) c.args.self.now c.self.view_is c.self.invariant.follows (known c.get.result.now c.self.inside.flat c.get.ensures c.is_network.ensures.network c.is_network.ensures.lawful c.is_network.ensures.laid c.is_network.ensures.shared c.is_network.ensures.private) c.in-Fire.leaf c.in-Fire.act c.in-Fire.time c.taking-in-Fire.result (sym c.in-Fire.is ∙ c.need.ensures) c.taking-in-Fire.ensures.of c.taking-in-Fire.ensures.first

pub returns-in-End : goal.returns-in-End
returns-in-End c = end_by (machine_by c.self.inside.flat c.self.inside.seed c.self.inside.limits c.self.inside.start c.self.inside.held c.self.inside.events.items c.self.inside.taken c.self.inside.spare) c.args.self.now c.self.view_is c.self.invariant.follows (known c.get.result.now c.self.inside.flat c.get.ensures c.is_network.ensures.network c.is_network.ensures.lawful c.is_network.ensures.laid c.is_network.ensures.shared c.is_network.ensures.private) (sym c.in-End.is ∙ c.need.ensures)
