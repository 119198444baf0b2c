use Rattle.std.proofs.Common.{◌≡◌, ◌++◌, drop, map}
use Rattle.san_check.specs.build.Composition.{child_of}
use Rattle.san_check.proofs.build.composition.named_children.Given as goal

abbrev pub invariant-children : goal.invariant-children
invariant-children l = l.found.items ++ map (child_of l.models) (drop l.child-index l.children) ≡ map (child_of l.models) l.children
