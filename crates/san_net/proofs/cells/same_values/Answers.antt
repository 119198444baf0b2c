use Rattle.std.proofs.Common.{arith, sym, ◌∙◌}
use Rattle.san_net.proofs.CellLemmas.{agrees, all_same, cell_below, differs}
use Rattle.san_net.proofs.cells.same_values.Goals as goal

pub bounds-a-at : goal.bounds-a-at
bounds-a-at c = cell_below c.args.slots.now c.cells.k c.place-at.result.0 c.cells-test.true c.place-at.ensures c.args.a.now c.requires.first

pub bounds-b-at : goal.bounds-b-at
bounds-b-at c = cell_below c.args.slots.now c.cells.k c.place-at.result.0 c.cells-test.true c.place-at.ensures c.args.b.now c.requires.second

pub returns-then-a-at : goal.returns-then-a-at
returns-then-a-at c = sym (c.cells.invariant.rest ∙ differs c.args.slots.now c.args.a.now c.args.b.now c.cells.k c.place-at.result.0 c.cells-test.true c.place-at.ensures c.if-a-at.true)

pub cells-preserved : goal.cells-preserved
cells-preserved c = record {
  rest = c.cells.invariant.rest ∙ agrees c.args.slots.now c.args.a.now c.args.b.now c.cells.k c.place-at.result.0 c.cells-test.true c.place-at.ensures c.if-a-at.false;
}

pub returns : goal.returns
returns c = sym (c.cells.invariant.rest ∙ all_same c.args.slots.now c.args.a.now c.args.b.now c.cells.k (omega (arith, c.cells-test.false)))
