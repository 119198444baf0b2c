use Rattle.std.proofs.Common.{arith, ap, [], ℕ, List, Bor}
use Rattle.san_report.proofs.PutLemmas.{next_long, put_next}
use Rattle.san_report.proofs.pieces.append_all.Goals as goal

pub append-requires : goal.append-requires
append-requires c =
    let none : Bor (List ℕ) = record { ref_ptr = (0, 0); now = [] } in
    omega (arith, next_long c.args.pieces.now c.pieces.k none c.pieces-test.true, c.pieces.invariant.room)

pub pieces-preserved : goal.pieces-preserved
pieces-preserved c =
    let none : Bor (List ℕ) = record { ref_ptr = (0, 0); now = [] } in
    let next = next_long c.args.pieces.now c.pieces.k none c.pieces-test.true in
    record {
      rest = put_next c.args.pieces.now c.pieces.k none c.pieces.page.held c.append.new.self.held _ c.pieces-test.true (ap (λ p. p.held) c.append.ensures) c.pieces.invariant.rest;
      room = omega (arith, next, c.pieces.invariant.room, ap (λ p. p.room) c.append.ensures);
    }
