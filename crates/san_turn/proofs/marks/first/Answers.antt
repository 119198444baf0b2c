use Rattle.std.proofs.Common.{Some, None, sym}
use Rattle.san_turn.proofs.Raised.{first_next}
use Rattle.san_turn.proofs.marks.first.Goals as goal

pub returns-in-Some : goal.returns-in-Some
returns-in-Some c = sym (first_next c.args.flags.now (Some c.in-Some.leaf) c.in-Some.ensures)

pub returns-in-None : goal.returns-in-None
returns-in-None c = sym (first_next c.args.flags.now None c.in-None.ensures)
