use Rattle.san_summary.specs.inner.Places.{at}
use Rattle.san_summary.specs.inner.Joined.{joined}
use Rattle.san_summary.proofs.PlaceLemmas.{Changed}
use Rattle.san_summary.proofs.places.join_all.Given as goal

abbrev pub invariant-rewards : goal.invariant-rewards
invariant-rewards l = Changed (λ r s. joined s (at l.others r)) l.r l.initial.mine.items l.mine.items
