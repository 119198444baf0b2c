use Rattle.std.proofs.Common.{◌≡◌, [], drop}
use Rattle.san_check.specs.inner.Walks.{seen_all}
use Rattle.san_check.specs.walk.Composition.{parts_entries}
use Rattle.san_check.proofs.walk.composition.walk_parts.Given as goal

abbrev pub invariant-parts : goal.invariant-parts
invariant-parts l = seen_all l.walk (parts_entries l.children l.taken l.first l.earlier (drop l.part-index l.parts)) ≡ seen_all l.fn.walk (parts_entries l.children l.taken l.first [] l.parts)
