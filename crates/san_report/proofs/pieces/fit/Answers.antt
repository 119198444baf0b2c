use Rattle.std.proofs.Common.{arith, [], ℕ, List, Bor}
use Rattle.san_report.proofs.PutLemmas.{next_long}
use Rattle.san_report.proofs.pieces.fit.Goals as goal

pub pieces-preserved : goal.pieces-preserved
pieces-preserved c =
    let none : Bor (List ℕ) = record { ref_ptr = (0, 0); now = [] } in
    let next = next_long c.args.pieces.now c.pieces.k none c.pieces-test.true in
    record {
      within = omega (arith, c.pieces.invariant.within);
      sum = omega (arith, c.pieces.invariant.sum, c.pieces.invariant.within, next, c.if-many-left.false);
    }
