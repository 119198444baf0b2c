use Rattle.san_flat.proofs.CodeLemmas.{slot-turn}
use Rattle.san_flat.specs.Homes.{home_of}
use Rattle.san_flat.proofs.parts.slots_of.Goals as goal

pub cells-preserved : goal.cells-preserved
cells-preserved c = λ homes a among.
    let m = c.args.model.now in
    slot-turn (home_of m.tree.nodes m.tree.root c.args.leaf.now.path) homes c.cells_of-cells.result.now _ c.cells.cell-index (0, 0) _ c.slot_of.result _ _ c.cells-test.true c.cells_of-cells.ensures c.in_ok-home.ensures among
    (c.slot_of.ensures homes a) c.in_ok-push.ensures.items (c.cells.invariant homes a among)
