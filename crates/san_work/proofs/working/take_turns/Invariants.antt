use Rattle.std.proofs.Common.{◌≡◌}
use Rattle.san_work.specs.Turns.{IsRaisedBy}
use Rattle.san_work.proofs.working.take_turns.Given as goal

abbrev pub invariant-turns : goal.invariant-turns
invariant-turns g l =
    record {
      number : (g.B.Board.counts l.pass).number ≡ (g.B.Board.counts l.fn.pass).number;
      asked : IsRaisedBy (g.B.Board.counts l.fn.pass).asked l.made (g.B.Board.counts l.pass).asked;
      ends : (g.B.Board.counts l.pass).ends ≡ (g.B.Board.counts l.fn.pass).ends;
    }
