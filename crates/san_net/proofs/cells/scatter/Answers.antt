use Rattle.std.proofs.Common.{arith, ◌∙◌, refl}
use Rattle.std.proofs.lemmas.List.{length-set}
use Rattle.san_net.proofs.CellLemmas.{cell_below, one_put, put_back, rest_stays}
use Rattle.san_net.proofs.cells.scatter.Goals as goal

pub bounds-marking-at : goal.bounds-marking-at
bounds-marking-at c = omega (arith, c.cells.invariant.sized, cell_below c.args.slots.now c.cells.k c.place-at.result.0 c.cells-test.true c.place-at.ensures c.args.marking.now c.requires.over.within)

pub cells-preserved : goal.cells-preserved
cells-preserved c = record {
  sized = length-set c.cells.marking c.place-at.result.0 _ ∙ c.cells.invariant.sized;
  rest = rest_stays c.args.slots.now c.cells.k c.place-at.result.0 c.cells-test.true c.place-at.ensures c.cells.marking c.args.marking.now _ c.requires.over c.cells.invariant.rest;
  front = one_put c.args.slots.now c.cells.k c.place-at.result.0 c.cells-test.true c.place-at.ensures c.cells.marking c.args.marking.now _ c.args.values.now c.requires.over c.cells.invariant.sized refl
      c.cells.invariant.front;
}

pub returns : goal.returns
returns c =
    put_back c.args.slots.now c.cells.marking c.args.marking.now c.args.values.now c.requires.sized c.cells.invariant.rest
    (λ i b. c.cells.invariant.front i (omega (arith, b, c.cells-test.false)))
