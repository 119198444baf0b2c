use Rattle.std.proofs.Common.{None, slice_index_or}
use Rattle.san_summary.specs.inner.Joined.{counted}
use Rattle.san_summary.proofs.PlaceLemmas.{Changed}
use Rattle.san_summary.proofs.places.count_all.Given as goal

abbrev pub invariant-rewards : goal.invariant-rewards
invariant-rewards l = Changed (λ r s. counted s (slice_index_or l.numbers r None)) l.r l.initial.mine.items l.mine.items
