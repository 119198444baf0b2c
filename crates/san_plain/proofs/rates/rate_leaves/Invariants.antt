use Rattle.std.proofs.Common.{take}
use Rattle.san_plain.specs.inner.Rates.{FollowsAt}
use Rattle.san_plain.proofs.rates.rate_leaves.Given as goal

abbrev pub invariant-leaves : goal.invariant-leaves
invariant-leaves l = FollowsAt l.flat (take l.k l.leaves) l.except.0 l.marking l.fn.tally l.tally
