use Rattle.std.proofs.Common.{◌≡◌, ◌<◌, ◌≤◌, ◌+◌, ◌-◌, slice_index_or, None}
use Rattle.san_winner.specs.Least.{sooner, span}
use Rattle.san_winner.proofs.matches.between.Given as goal

abbrev pub invariant-levels : goal.invariant-levels
invariant-levels l = record {
  low : 0 < l.low;
  order : l.low ≤ l.high;
  high : l.high ≤ l.size + l.size;
  same : sooner l.first (sooner (span (λ v. slice_index_or l.nodes v None) l.low (l.high - l.low)) l.last) ≡ span (λ v. slice_index_or l.nodes v None) (l.size + l.lo) (l.hi - l.lo);
}

abbrev pub decreases-levels : goal.decreases-levels
decreases-levels l = l.high
