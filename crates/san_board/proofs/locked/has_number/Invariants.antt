use Rattle.std.proofs.Common.{◌≡◌, drop}
use Rattle.san_board.specs.Passes.{has_number}
use Rattle.san_board.proofs.locked.has_number.Given as goal

abbrev pub invariant-passes : goal.invariant-passes
invariant-passes g l = has_number l.number (drop l.pass-index l.passes) ≡ has_number l.number l.passes
