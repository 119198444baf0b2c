use Rattle.std.proofs.Common.{◌≡◌, ◌++◌, drop}
use Rattle.san_flat.specs.inner.Sightings.{picked}
use Rattle.san_flat.proofs.initial.push_picked.Given as goal

abbrev pub invariant-counts : goal.invariant-counts
invariant-counts l = l.out.items ++ picked l.twice (drop l.at l.counts) (drop l.at l.values) ≡ l.fn.out.items ++ picked l.twice l.counts l.values
