use Rattle.std.proofs.Common.{arith, ap, length}
use Rattle.san_seq.specs.inner.Looks.{Looked}
use Rattle.san_seq.proofs.wakes.LooksMarked.read.Goals as goal

pub raise-requires : goal.raise-requires
raise-requires c = omega (arith, c.requires, ap (λ (s : Looked). length s.values) c.self.view_is, c.self.invariant.0, c.self.invariant.1)

pub bounds-values-place : goal.bounds-values-place
bounds-values-place c = omega (arith, c.requires, ap (λ (s : Looked). length s.values) c.self.view_is, ap length c.as_slice-values.ensures)
