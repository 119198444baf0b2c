use Rattle.std.proofs.Common.{ℕ, List, map, sym, subst, true, false}
use Rattle.san_report.specs.Lines.{joined}
use Rattle.san_report.specs.Puts.{Wrote}
use Rattle.san_report.proofs.PutLemmas.{joined_front, wrote_then, wrote_part}
use Rattle.san_report.proofs.pieces.+put_pieces.Goals as goal

pub returns-then-put_piece : goal.returns-then-put_piece
returns-then-put_piece g t c =
    let K = g.K.Sink in
    let was = c.args.sink.now in
    let one = c.put_piece.new.sink in
    let two = c.put_pieces.new.sink in
    let first : Wrote true (K.held was) (K.held one) (K.faults was) (K.faults one) _ = c.if-put_piece.ensures in
    subst (λ (bytes : List ℕ). Wrote c.put_pieces.result (K.held was) (K.held two) (K.faults was) (K.faults two) bytes) (sym (joined_front c.args.pieces.now _ c.in-len1-up.len_at_least))
    (wrote_then c.put_pieces.result (K.held was) (K.held one) (K.held two) (K.faults was) (K.faults one) (K.faults two) _ _ first c.put_pieces.ensures)

pub returns-else-put_piece : goal.returns-else-put_piece
returns-else-put_piece g t c =
    let K = g.K.Sink in
    let was = c.args.sink.now in
    let one = c.put_piece.new.sink in
    let first : Wrote false (K.held was) (K.held one) (K.faults was) (K.faults one) _ = c.if-put_piece.ensures in
    subst (λ b. Wrote b (K.held was) (K.held one) (K.faults was) (K.faults one) (joined (map (λ p. p.now) c.args.pieces.now))) (sym c.if-put_piece.false)
    (subst (λ (bytes : List ℕ). Wrote false (K.held was) (K.held one) (K.faults was) (K.faults one) bytes) (sym (joined_front c.args.pieces.now _ c.in-len1-up.len_at_least))
    (wrote_part (K.held was) (K.held one) (K.faults was) (K.faults one) _ _ first))
