use Rattle.std.proofs.Common.{◌≡◌, ◌++◌, drop, map}
use Rattle.san_check.specs.build.Composition.{part_numbers}
use Rattle.san_check.proofs.build.composition.parts_of.Given as goal

abbrev pub invariant-parts : goal.invariant-parts
invariant-parts l = l.found.items ++ map (part_numbers l.children) (drop l.part-index l.parts) ≡ map (part_numbers l.children) l.parts
