use Rattle.std.proofs.Common.{◌++◌, ◌∙◌, ap, sym, arith, append-nil, [], ℕ, List, Bor}
use Rattle.san_report.proofs.PutLemmas.{joined_none, put_next}
use Rattle.san_report.proofs.pieces.push_pieces.Goals as goal

pub pieces-preserved : goal.pieces-preserved
pieces-preserved c =
    let none : Bor (List ℕ) = record { ref_ptr = (0, 0); now = [] } in
    put_next c.args.pieces.now c.pieces.k none c.pieces.text.items c.extend_from_slice.new.self.items _ c.pieces-test.true c.in_ok-extend_from_slice.ensures.items c.pieces.invariant

pub returns : goal.returns
returns c =
    sym (append-nil c.pieces.text.items) ∙ ap (λ (xs : List ℕ). c.pieces.text.items ++ xs) (sym (joined_none c.args.pieces.now c.pieces.k (omega (arith, c.pieces-test.false)))) ∙ c.pieces.invariant
