use Rattle.san_net.proofs.PartLemmas.{part_there}
use Rattle.san_net.specs.Laid.{place_of}
use Rattle.san_plain.proofs.RateLemmas.{place_private, private_place}
use Rattle.san_plain.proofs.rates.rate_slot.Goals as goal

pub returns-in-Private-clause-rates : goal.returns-in-Private-clause-rates
returns-in-Private-clause-rates c =
    let n = c.args.flat.now in
    let own = part_there n.parts c.args.leaf.0 c.requires.leaf in
    let cell = c.requires.own own.0 own.1 in
    place_private n c.args.marking.now c.args.leaf.0 c.args.before.now (place_of c.args.slot) c.args.tally.now own.0 cell.0 c.is_network.ensures.network.numbered.leaves
    (c.is_network.ensures.private (place_of c.args.slot) (private_place n.shared c.args.slot c.in-Private.place c.in-Private.is c.requires.tagged) c.requires.place)
    own.1 cell.1
