use Rattle.std.proofs.Common.{◌≡◌, map, take}
use Rattle.san_flat.specs.Paths.{path_text}
use Rattle.san_flat.proofs.path.paths_of.Given as goal

abbrev pub invariant-leaves : goal.invariant-leaves
invariant-leaves l = l.paths.items ≡ map (λ leaf. path_text l.model.system l.model.tree.nodes l.model.tree.root leaf.path) (take l.leaf-index l.leaves)
