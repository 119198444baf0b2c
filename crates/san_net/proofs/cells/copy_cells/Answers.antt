use Rattle.std.proofs.Common.{arith, ◌∙◌, sym, subst, map, ℕ}
use Rattle.std.proofs.lemmas.List.{length-map, length-set}
use Rattle.san_law.specs.Lawful.{AllBelow}
use Rattle.san_law.specs.State.{gather}
use Rattle.san_net.specs.Cells.{LiesOver}
use Rattle.san_net.specs.Laid.{place_of}
use Rattle.san_net.proofs.CellLemmas.{cell_below, cells_are, one_put, put_back, rest_stays, value_at}
use Rattle.san_net.proofs.cells.copy_cells.Goals as goal

pub bounds-from-at : goal.bounds-from-at
bounds-from-at c = cell_below c.args.slots.now c.cells.k c.place-at.result.0 c.cells-test.true c.place-at.ensures c.args.from.now c.requires.over.within

pub bounds-to-at : goal.bounds-to-at
bounds-to-at c =
    omega (arith, c.cells.invariant.sized, c.requires.sized, cell_below c.args.slots.now c.cells.k c.place-at.result.0 c.cells-test.true c.place-at.ensures c.args.from.now c.requires.over.within)

pub cells-preserved : goal.cells-preserved
cells-preserved c =
    let over : LiesOver (map place_of c.args.slots.now) c.args.to.now = record {
      apart = c.requires.over.apart;
      within = subst (λ (n : ℕ). AllBelow (map place_of c.args.slots.now) n) (sym c.requires.sized) c.requires.over.within;
    } in
    record {
      sized = length-set c.cells.to c.place-at.result.0 _ ∙ c.cells.invariant.sized;
      rest = rest_stays c.args.slots.now c.cells.k c.place-at.result.0 c.cells-test.true c.place-at.ensures c.cells.to c.args.to.now _ over c.cells.invariant.rest;
      front = one_put c.args.slots.now c.cells.k c.place-at.result.0 c.cells-test.true c.place-at.ensures c.cells.to c.args.to.now _ (gather (map place_of c.args.slots.now) c.args.from.now) over c.cells.invariant.sized
          (value_at c.args.slots.now c.args.from.now c.cells.k c.place-at.result.0 c.cells-test.true c.place-at.ensures) c.cells.invariant.front;
    }

pub returns : goal.returns
returns c =
    put_back c.args.slots.now c.cells.to c.args.to.now (gather (map place_of c.args.slots.now) c.args.from.now)
    (cells_are (map place_of c.args.slots.now) c.args.from.now ∙ length-map c.args.slots.now place_of) c.cells.invariant.rest
    (λ i b. c.cells.invariant.front i (omega (arith, b, c.cells-test.false)))
