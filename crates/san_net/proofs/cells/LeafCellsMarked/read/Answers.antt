use Rattle.san_net.proofs.CellLemmas.{read_there, within}
use Rattle.san_net.proofs.cells.LeafCellsMarked.read.Goals as goal

pub bounds-marking-at : goal.bounds-marking-at
bounds-marking-at c = within c.self.inside.slots.now c.self.inside.marking.now c.args.self.now c.self.view_is c.self.invariant c.args.place c.place-at.result.0 c.requires c.place-at.ensures

pub returns : goal.returns
returns c = read_there c.self.inside.slots.now c.self.inside.marking.now c.args.self.now c.self.view_is c.self.invariant c.args.place c.place-at.result.0 c.requires c.place-at.ensures
