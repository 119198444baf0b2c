use Rattle.std.proofs.Common.{◌≡◌, ◌++◌, drop, map}
use Rattle.san_check.specs.build.Composition.{number}
use Rattle.san_check.proofs.build.composition.shown_numbers.Given as goal

abbrev pub invariant-names : goal.invariant-names
invariant-names l = l.found.items ++ map (number l.places) (drop l.name-index l.names) ≡ map (number l.places) l.names
