use Rattle.std.proofs.Common.{arith, ◌∙◌}
use Rattle.std.proofs.lemmas.List.{length-set}
use Rattle.san_net.proofs.CellLemmas.{cell_below, one_more, taken_out}
use Rattle.san_net.proofs.cells.gather.Goals as goal

pub bounds-marking-at : goal.bounds-marking-at
bounds-marking-at c = cell_below c.args.slots.now c.cells.k c.place-at.result.0 c.cells-test.true c.place-at.ensures c.args.marking.now c.requires.over

pub cells-preserved : goal.cells-preserved
cells-preserved c = record {
  sized = length-set c.cells.values c.cells.k _ ∙ c.cells.invariant.sized;
  front = one_more c.args.slots.now c.cells.k c.place-at.result.0 c.cells-test.true c.place-at.ensures c.args.marking.now c.cells.values
      (omega (arith, c.cells-test.true, c.cells.invariant.sized)) c.cells.invariant.front;
}

pub returns : goal.returns
returns c = taken_out c.args.slots.now c.args.marking.now c.cells.values c.cells.invariant.sized (λ i b. c.cells.invariant.front i (omega (arith, b, c.cells-test.false)))
