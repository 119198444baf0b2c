use Rattle.std.proofs.Common.{ap, arith, ◌∙◌, ◌*◌, ◌≡◌}
use Rattle.san_net.specs.Laid.{acts_of}
use Rattle.san_net.specs.Network.{Network}
use Rattle.san_draw.specs.Streams.{Seeded}
use Rattle.san_core.specs.Machines.{machine_by}
use Rattle.san_core.proofs.Knowing.{known, make_fits, make_leaf, make_leaves, make_made, make_small}
use Rattle.san_core.proofs.machine.Machine.make.Goals as goal

pub make-requires-clause-leaf : goal.make-requires-clause-leaf
make-requires-clause-leaf c = make_leaf (machine_by c.self.inside.flat c.self.inside.seed c.self.inside.limits c.self.inside.start c.self.inside.held c.self.inside.events.items c.self.inside.taken c.self.inside.spare) c.args.self.now c.self.view_is c.self.invariant.follows (known c.get.result.now c.self.inside.flat c.get.ensures c.is_network.ensures.network c.is_network.ensures.lawful c.is_network.ensures.laid c.is_network.ensures.shared c.is_network.ensures.private) c.get-2.result.now c.get-2.ensures c.args.taking c.requires

pub make-requires-clause-leaves : goal.make-requires-clause-leaves
make-requires-clause-leaves c = make_leaves (machine_by c.self.inside.flat c.self.inside.seed c.self.inside.limits c.self.inside.start c.self.inside.held c.self.inside.events.items c.self.inside.taken c.self.inside.spare) c.args.self.now c.self.view_is c.self.invariant.follows (known c.get.result.now c.self.inside.flat c.get.ensures c.is_network.ensures.network c.is_network.ensures.lawful c.is_network.ensures.laid c.is_network.ensures.shared c.is_network.ensures.private) c.get-2.result.now c.get-2.ensures c.args.taking c.requires

pub make-requires-clause-fits : goal.make-requires-clause-fits
make-requires-clause-fits c = make_fits (machine_by c.self.inside.flat c.self.inside.seed c.self.inside.limits c.self.inside.start c.self.inside.held c.self.inside.events.items c.self.inside.taken c.self.inside.spare) c.args.self.now c.self.view_is c.self.invariant.follows (known c.get.result.now c.self.inside.flat c.get.ensures c.is_network.ensures.network c.is_network.ensures.lawful c.is_network.ensures.laid c.is_network.ensures.shared c.is_network.ensures.private) c.get-2.result.now c.get-2.ensures c.args.taking c.requires

pub make-requires-clause-small : goal.make-requires-clause-small
make-requires-clause-small c = make_small (machine_by c.self.inside.flat c.self.inside.seed c.self.inside.limits c.self.inside.start c.self.inside.held c.self.inside.events.items c.self.inside.taken c.self.inside.spare) c.args.self.now c.self.view_is c.self.invariant.follows (known c.get.result.now c.self.inside.flat c.get.ensures c.is_network.ensures.network c.is_network.ensures.lawful c.is_network.ensures.laid c.is_network.ensures.shared c.is_network.ensures.private) c.get-2.result.now c.get-2.ensures c.args.taking c.requires

pub make-requires-clause-streams : goal.make-requires-clause-streams
make-requires-clause-streams c = let e : 2 * acts_of c.get-2.result.now.parts ≡ 2 * acts_of c.self.inside.flat.parts = ap (λ (n : Network). 2 * acts_of n.parts) c.get-2.ensures in omega (arith, e, c.self.invariant.streams)

pub returns-clause-made : goal.returns-clause-made
returns-clause-made c = make_made (machine_by c.self.inside.flat c.self.inside.seed c.self.inside.limits c.self.inside.start c.self.inside.held c.self.inside.events.items c.self.inside.taken c.self.inside.spare) c.args.self.now c.self.view_is c.self.invariant.follows (known c.get.result.now c.self.inside.flat c.get.ensures c.is_network.ensures.network c.is_network.ensures.lawful c.is_network.ensures.laid c.is_network.ensures.shared c.is_network.ensures.private) c.get-2.result.now c.get-2.ensures c.args.taking c.requires c.make.result c.make.ensures.made

pub invariant_of-self : goal.invariant_of-self
invariant_of-self c = record {
  follows = c.self.invariant.follows;
  spare = c.self.invariant.spare;
  few = c.self.invariant.few;
  places_kept = c.self.invariant.places_kept;
  seed = ap (λ (x : Seeded). x.seed) c.make.ensures.same ∙ c.self.invariant.seed;
  streams = ap (λ (x : Seeded). x.streams) c.make.ensures.same ∙ c.self.invariant.streams;
}
