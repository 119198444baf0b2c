use Rattle.std.proofs.Common.{◌≡◌, ◌<◌, ◌≤◌, ℕ, slice_index_or, None}
use Rattle.san_winner.specs.Least.{AreWonBut}
use Rattle.san_winner.proofs.matches.raise.Given as goal

abbrev pub invariant-path : goal.invariant-path
invariant-path l = record {
  low : l.at < l.size;
  tree : AreWonBut l.at l.size l.nodes;
  leaves : (k : ℕ) → l.size ≤ k → slice_index_or l.nodes k None ≡ slice_index_or l.fn.nodes k None;
}

abbrev pub decreases-path : goal.decreases-path
decreases-path l = l.at
