use Rattle.std.proofs.Common.{◌≡◌, filter, take}
use Rattle.san_plain.specs.inner.Rated.{hangs_in}
use Rattle.san_plain.proofs.rated.rated_at.Given as goal

abbrev pub invariant-leaves : goal.invariant-leaves
invariant-leaves l = l.rated.items ≡ filter (hangs_in l.flat l.place.0) (take l.k l.importers)
