use Rattle.std.proofs.Common.{◌≡◌, min, take}
use Rattle.san_flat.specs.inner.Models.{acts_in}
use Rattle.san_flat.proofs.parts.act_count.Given as goal

abbrev pub invariant-leaves : goal.invariant-leaves
invariant-leaves l = l.total ≡ min (acts_in l.model (take l.leaf-index l.leaves)) 65537
