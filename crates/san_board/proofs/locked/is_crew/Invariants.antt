use Rattle.std.proofs.Common.{◌≡◌, true}
use Rattle.san_board.specs.Passes.{has_all}
use Rattle.san_board.proofs.locked.is_crew.Given as goal

abbrev pub invariant-numbers : goal.invariant-numbers
invariant-numbers g l = has_all l.number l.passes ≡ true
