use Rattle.std.proofs.Common.{◌+◌, ◌≡◌, drop, map}
use Rattle.san_book.specs.Chains.{current}
use Rattle.san_decide.specs.Booked.{of_piece}
use Rattle.san_ahead.specs.Aheads.{line_in}
use Rattle.san_ahead.proofs.chains.current_pieces.Given as goal

abbrev pub invariant-pieces : goal.invariant-pieces
invariant-pieces l = l.index + current of_piece (map line_in l.lines) l.leaf.0 (drop l.index l.chain.pieces) ≡ current of_piece (map line_in l.lines) l.leaf.0 l.chain.pieces
