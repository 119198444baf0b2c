use Rattle.std.proofs.Common.{◌≡◌, ◌<◌, ℕ, length, Some, true}
use Rattle.std.specs.Prelude.{slice_get}
use Rattle.san_seq.proofs.stale.raise_all.Given as goal

abbrev pub invariant-flags : goal.invariant-flags
invariant-flags l = record {
  sized : length l.flags ≡ l.many;
  up : (i : ℕ) → i < l.at → slice_get l.flags i ≡ Some true;
}
