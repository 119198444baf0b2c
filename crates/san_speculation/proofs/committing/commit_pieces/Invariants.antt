use Rattle.std.proofs.Common.{◌-◌, ◌≡◌, ◌≤◌, length}
use Rattle.san_book.specs.declared.limits.TheConstants.{MAX_COMMIT}
use Rattle.san_speculation.specs.inner.Committing.{TakesHeads}
use Rattle.san_speculation.specs.inner.Soonest.{KeepsLow}
use Rattle.san_speculation.proofs.committing.commit_pieces.Given as goal

abbrev pub invariant-pieces : goal.invariant-pieces
invariant-pieces l = record {
  least : 1 ≤ l.pieces;
  most : l.pieces ≤ MAX_COMMIT;
  taken : TakesHeads l.fn.machine l.fn.ahead l.pieces l.machine l.ahead;
  low : KeepsLow l.fn.machine l.fn.ahead l.fn.soonest l.machine l.ahead l.soonest;
  keys : length l.soonest ≡ length l.fn.soonest;
}

abbrev pub decreases-pieces : goal.decreases-pieces
decreases-pieces l = MAX_COMMIT - l.pieces
