use Rattle.std.proofs.Common.{◌≡◌, ◌++◌, drop}
use Rattle.san_flat.specs.Paths.{path_text, steps_text}
use Rattle.san_flat.proofs.path.path_of.Given as goal

abbrev pub invariant-steps : goal.invariant-steps
invariant-steps l = l.text.items ++ steps_text l.nodes l.n (drop l.child-index l.path) ≡ path_text l.model.system l.nodes l.model.tree.root l.path
