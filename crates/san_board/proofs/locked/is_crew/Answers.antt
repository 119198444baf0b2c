use Rattle.std.proofs.Common.{suc, arith, sym, ◌∙◌}
use Rattle.san_board.proofs.Crews.{no_crew}
use Rattle.san_board.proofs.locked.is_crew.Goals as goal

pub returns-then-not-has_number : goal.returns-then-not-has_number
returns-then-not-has_number g c = sym (no_crew (suc c.args.workers) c.numbers.number c.args.passes.now (omega (arith, c.numbers-test.true)) (sym c.has_number.ensures ∙ c.if-not-has_number.true))
