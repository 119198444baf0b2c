use Rattle.std.proofs.Common.{◌∙◌, ap, sym, subst, length, map, List, ℕ, arith}
use Rattle.std.proofs.Math.ListN.{drop_of_length-le}
use Rattle.san_book.specs.Chains.{AllFit, without_pieces}
use Rattle.san_book.specs.Lines.{AreWrites, each, withdraw}
use Rattle.san_leaf.specs.Pieces.{PieceValue}
use Rattle.san_leaf.specs.States.{pair_in}
use Rattle.san_decide.specs.Booked.{of_piece}
use Rattle.san_ahead.specs.Aheads.{line_in}
use Rattle.san_ahead.proofs.ChainLemmas.{each_long, fit_at, without_more}
use Rattle.san_ahead.proofs.chains.cut_chain.Goals as goal

pub withdraw_writes-requires : goal.withdraw_writes-requires
withdraw_writes-requires c =
    let here = c.in-Some.ensures in
    record { fit = subst (AreWrites (length c.pieces.lines)) (ap (λ o. o.writes) (sym c.outcome.ensures.same) ∙ ap (map pair_in) (sym c.deref.ensures.value)) (fit_at c.args.chain.now.pieces c.pieces.index (c.in-Some.pos, c.in-Some.piece.now) here.0 here.1 (length c.pieces.lines) c.pieces.invariant.fit) }

pub pieces-preserved : goal.pieces-preserved
pieces-preserved c =
    let here = c.in-Some.ensures in
    let writes = ap (λ o. o.writes) (sym c.outcome.ensures.same) ∙ ap (map pair_in) (sym c.deref.ensures.value) in
    let new = c.withdraw_writes.ensures ∙ ap (λ (ws : List (ℕ × ℕ)). each (withdraw c.args.leaf.0 c.in-Some.pos) ws (map line_in c.pieces.lines)) (sym writes) in
    record {
      rest = without_more c.args.chain.now.pieces c.pieces.index (c.in-Some.pos, c.in-Some.piece.now) here.0 here.1 c.args.leaf.0 (map line_in c.pieces.lines) (map line_in c.withdraw_writes.new.lines) new ∙ c.pieces.invariant.rest;
      fit = subst (λ (n : ℕ). AllFit of_piece n c.args.chain.now.pieces) (each_long c.pieces.lines c.withdraw_writes.new.lines (withdraw c.args.leaf.0 c.in-Some.pos) c.in-Some.piece.now.outcome.writes new) c.pieces.invariant.fit;
    }

pub returns-clause-lines : goal.returns-clause-lines
returns-clause-lines c =
    ap (λ (xs : List (ℕ × PieceValue)). without_pieces of_piece c.args.leaf.0 xs (map line_in c.pieces.lines)) (sym (drop_of_length-le c.args.chain.now.pieces {i = c.pieces.index} (omega (arith, c.pieces-test.false, c.len-end.ensures))))
    ∙ c.pieces.invariant.rest
