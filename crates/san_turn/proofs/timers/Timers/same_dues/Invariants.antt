use Rattle.std.proofs.Common.{◌≡◌, ◌<◌, ℕ, None, slice_index_or}
use Rattle.san_turn.proofs.timers.Timers.same_dues.Given as goal

abbrev pub invariant-leaves : goal.invariant-leaves
invariant-leaves l = (i : ℕ) → i < l.leaf → slice_index_or l.self.dues i None ≡ slice_index_or l.other.dues i None
