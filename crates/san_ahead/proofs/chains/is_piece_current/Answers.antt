use Rattle.std.proofs.Common.{◌∙◌, ap, sym, map}
use Rattle.san_book.specs.Lines.{agrees, seen_at}
use Rattle.san_decide.specs.Booked.{entry_of}
use Rattle.san_decide.proofs.Booking.{entries_back}
use Rattle.san_ahead.specs.Aheads.{line_in}
use Rattle.san_ahead.proofs.ChainLemmas.{stamped}
use Rattle.san_ahead.proofs.chains.is_piece_current.Goals as goal

pub returns : goal.returns
returns c =
    let lines = map line_in c.args.lines.now in
    let log = sym (entries_back c.log.result.now) ∙ ap (map entry_of) c.log.ensures in
    let all = c.sees_all.ensures c.args.piece.now.part.first.0 ∙ ap (λ k. Rattle.san_book.specs.Machines.sees_all (Rattle.san_leaf.specs.States.kind_in c.args.piece.now.part.first.0 k)) c.kind.ensures in
    c.agrees_at.ensures
    ∙ ap (agrees (seen_at lines _)) log
    ∙ stamped lines (map entry_of c.args.piece.now.log) c.args.leaf.0 c.args.pos c.time.result.0 c.args.piece.now.time c.sees_all.result _ c.time.ensures all
