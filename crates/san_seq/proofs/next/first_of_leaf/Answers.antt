use Rattle.san_seq.proofs.NextLemmas.{fits, found_is}
use Rattle.san_seq.proofs.next.first_of_leaf.Goals as goal

pub first_instant-requires : goal.first_instant-requires
first_instant-requires c =
    fits c.args.part.now c.as_slice.result.now c.args.marking.now c.new-cells.result c.as_slice.ensures c.new-cells.ensures c.get.result.now c.get.ensures c.requires.accepted c.requires.each

pub returns : goal.returns
returns c =
    found_is c.args.part.now c.as_slice.result.now c.args.marking.now c.new-cells.result c.as_slice.ensures c.new-cells.ensures c.get.result.now c.first_instant.new.view c.first_instant.result c.get.ensures
    c.first_instant.ensures
