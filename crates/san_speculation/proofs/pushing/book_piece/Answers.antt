use Rattle.san_speculation.proofs.Published.{piece_booked}
use Rattle.san_speculation.proofs.pushing.book_piece.Goals as goal

pub returns : goal.returns
returns c = piece_booked c.args.worker c.args.journal.now.items c.book_reads.new.journal.items c.book.new.journal.items c.log.result.now c.args.piece.now c.kind.result c.time.result c.book.ensures.items c.book_reads.ensures.items c.log.ensures c.kind.ensures c.time.ensures
