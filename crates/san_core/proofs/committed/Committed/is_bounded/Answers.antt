use Rattle.std.proofs.Common.{arith}
use Rattle.san_core.proofs.committed.Committed.is_bounded.Goals as goal

pub returns : goal.returns
returns c = omega (arith, c.burst.ensures, c.burst.type_inv)
