use Rattle.std.proofs.Common.{◌<◌, ap, sym, subst, arith}
use Rattle.san_law.specs.Lawful.{IsLaid, IsLawful}
use Rattle.san_law.specs.Left.{left}
use Rattle.san_net.specs.Laid.{IsNetwork}
use Rattle.san_net.specs.Network.{Network, net_of}
use Rattle.std.specs.Prelude.{length}
use Rattle.san_core.specs.Machines.{FollowsRun, IsNeeded, MachineValue, after_taking, core_in, machine_by, net_in}
use Rattle.san_core.proofs.Following as follow
use Rattle.san_core.proofs.machine.Machine.take.Goals as goal

pub take_piece-requires-clause-can : goal.take_piece-requires-clause-can
take_piece-requires-clause-can c = follow.can_at (machine_by c.self.inside.flat c.self.inside.seed c.self.inside.limits c.self.inside.start c.self.inside.held c.self.inside.events.items c.self.inside.taken c.self.inside.spare) c.self.invariant.follows (subst IsNetwork c.get.ensures c.is_network.ensures.network) (λ draw limits. subst (λ (x : Network). IsLawful (net_of x draw limits)) c.get.ensures (c.is_network.ensures.lawful draw limits)) (λ draw limits. subst (λ (x : Network). IsLaid (net_of x draw limits) (length x.initial)) c.get.ensures (c.is_network.ensures.laid draw limits)) c.args.piece (subst (λ (x : MachineValue). IsNeeded x c.args.piece) (sym c.self.view_is) c.requires.needed) c.is_sound.ensures c.fits.ensures c.get-2.result.now c.get-2.ensures

pub overflow_add-self : goal.overflow_add-self
overflow_add-self c = omega (arith, follow.few_left (machine_by c.self.inside.flat c.self.inside.seed c.self.inside.limits c.self.inside.start c.self.inside.held c.self.inside.events.items c.self.inside.taken c.self.inside.spare) c.self.invariant.follows (subst IsNetwork c.get.ensures c.is_network.ensures.network) (λ draw limits. subst (λ (x : Network). IsLawful (net_of x draw limits)) c.get.ensures (c.is_network.ensures.lawful draw limits)) (λ draw limits. subst (λ (x : Network). IsLaid (net_of x draw limits) (length x.initial)) c.get.ensures (c.is_network.ensures.laid draw limits)))

pub invariant_of-self : goal.invariant_of-self
invariant_of-self c =
    let is = follow.taken_on (machine_by c.self.inside.flat c.self.inside.seed c.self.inside.limits c.self.inside.start c.self.inside.held c.self.inside.events.items c.self.inside.taken c.self.inside.spare) c.self.invariant.follows (subst IsNetwork c.get.ensures c.is_network.ensures.network) (λ draw limits. subst (λ (x : Network). IsLawful (net_of x draw limits)) c.get.ensures (c.is_network.ensures.lawful draw limits)) (λ draw limits. subst (λ (x : Network). IsLaid (net_of x draw limits) (length x.initial)) c.get.ensures (c.is_network.ensures.laid draw limits)) c.args.piece (subst (λ (x : MachineValue). IsNeeded x c.args.piece) (sym c.self.view_is) c.requires.needed) c.is_sound.ensures c.get-2.result.now c.get-2.ensures c.take_piece.new.held c.take_piece.new.events.items c.take_piece.ensures.held c.take_piece.ensures.events in
    record {
      follows = subst FollowsRun (sym is) (follow.runs_on (machine_by c.self.inside.flat c.self.inside.seed c.self.inside.limits c.self.inside.start c.self.inside.held c.self.inside.events.items c.self.inside.taken c.self.inside.spare) c.self.invariant.follows (subst IsNetwork c.get.ensures c.is_network.ensures.network) (λ draw limits. subst (λ (x : Network). IsLawful (net_of x draw limits)) c.get.ensures (c.is_network.ensures.lawful draw limits)) (λ draw limits. subst (λ (x : Network). IsLaid (net_of x draw limits) (length x.initial)) c.get.ensures (c.is_network.ensures.laid draw limits)) c.args.piece (subst (λ (x : MachineValue). IsNeeded x c.args.piece) (sym c.self.view_is) c.requires.needed) c.is_sound.ensures);
      spare = omega (arith, c.self.invariant.spare, c.self.invariant.few, c.take_piece.ensures.len, c.take_piece.ensures.room, c.requires.spare, ap (λ (x : MachineValue). x.spare) c.self.view_is);
      few = omega (arith, c.self.invariant.few);
      places_kept = omega (arith, c.self.invariant.places_kept, c.take_piece.ensures.news);
      seed = c.self.invariant.seed;
      streams = c.self.invariant.streams;
    }

pub returns-clause-less : goal.returns-clause-less
returns-clause-less c = subst (λ (x : MachineValue). left (net_in (machine_by c.self.inside.flat c.self.inside.seed c.self.inside.limits c.self.inside.start c.self.inside.held c.self.inside.events.items c.self.inside.taken c.self.inside.spare)) (core_in (after_taking (machine_by c.self.inside.flat c.self.inside.seed c.self.inside.limits c.self.inside.start c.self.inside.held c.self.inside.events.items c.self.inside.taken c.self.inside.spare) c.args.piece)) < left (net_in x) (core_in x)) c.self.view_is (follow.falls (machine_by c.self.inside.flat c.self.inside.seed c.self.inside.limits c.self.inside.start c.self.inside.held c.self.inside.events.items c.self.inside.taken c.self.inside.spare) c.self.invariant.follows (subst IsNetwork c.get.ensures c.is_network.ensures.network) (λ draw limits. subst (λ (x : Network). IsLawful (net_of x draw limits)) c.get.ensures (c.is_network.ensures.lawful draw limits)) (λ draw limits. subst (λ (x : Network). IsLaid (net_of x draw limits) (length x.initial)) c.get.ensures (c.is_network.ensures.laid draw limits)) c.args.piece (subst (λ (x : MachineValue). IsNeeded x c.args.piece) (sym c.self.view_is) c.requires.needed) c.is_sound.ensures)
