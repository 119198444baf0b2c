use Rattle.std.proofs.Common.{◌++◌, ◌∷◌, [], map, take}
use Rattle.san_flat.proofs.CodeLemmas.{row-many, too-many}
use Rattle.san_flat.specs.Homes.{home_of, home_of_key}
use Rattle.san_flat.proofs.seen.see_leaf.Goals as goal

pub returns-then-not-branch : goal.returns-then-not-branch
returns-then-not-branch c = λ homes initial seen.
    let m = c.args.model.now in
    let f = home_of m.tree.nodes m.tree.root c.args.leaf.now.path in
    let cells = c.cells_of-cells.result.now in
    let done = homes ++ map f (take c.cells.at cells) in
    let known = initial ++ take c.cells.at c.initial_of-values.result.now in
    row-many f homes cells _ c.cells.at (0, 0) (home_of_key c.in_ok-home.home) 65536 c.cells-test.true c.cells_of-cells.ensures c.in_ok-home.ensures
    (too-many c.in_ok-see.field-0 (done ++ home_of_key c.in_ok-home.home ∷ []) (known ++ _ ∷ []) c.see.new.seen c.if-not-branch.true (c.in_ok-see.ensures done known (c.cells.invariant homes initial seen).0))
