use Rattle.std.proofs.Common.{◌≡◌, drop}
use Rattle.san_leaf.specs.inner.Renewals.{any_pair}
use Rattle.san_leaf.proofs.renewal.has_pair.Given as goal

abbrev pub invariant-acts : goal.invariant-acts
invariant-acts l = any_pair (drop l.act-index l.acts) ≡ any_pair l.acts
