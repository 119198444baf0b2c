use Rattle.san_seq.proofs.SearchLemmas.{earlier_at}
use Rattle.san_seq.proofs.next.first_of_place.Goals as goal

pub returns-clause-none : goal.returns-clause-none
returns-clause-none c =
    earlier_at c.args.flat.now.parts c.args.wakes.now c.args.markings.now.stable.now c.args.markings.now.present.now c.first_of_bands.result.leaf.0 c.args.place.0 c.instants-bands.result.now c.instants-bands.ensures
    c.first_of_bands.ensures.none
