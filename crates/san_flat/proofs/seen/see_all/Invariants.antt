use Rattle.std.proofs.Common.{take, true}
use Rattle.san_flat.specs.inner.Models.{homes_from, values_from}
use Rattle.san_flat.specs.inner.Sightings.{Sees}
use Rattle.san_flat.proofs.seen.see_all.Given as goal

abbrev pub invariant-leaves : goal.invariant-leaves
invariant-leaves l = Sees true (homes_from l.model (take l.leaf-index l.leaves)) (values_from l.model (take l.leaf-index l.leaves)) l.seen
