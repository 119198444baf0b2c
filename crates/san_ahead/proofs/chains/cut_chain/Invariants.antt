use Rattle.std.proofs.Common.{◌≡◌, drop, length, map}
use Rattle.san_book.specs.Chains.{AllFit, without_pieces}
use Rattle.san_decide.specs.Booked.{of_piece}
use Rattle.san_ahead.specs.Aheads.{line_in}
use Rattle.san_ahead.proofs.chains.cut_chain.Given as goal

abbrev pub invariant-pieces : goal.invariant-pieces
invariant-pieces l = record {
  rest : without_pieces of_piece l.leaf.0 (drop l.index l.chain.pieces) (map line_in l.lines) ≡ without_pieces of_piece l.leaf.0 (drop l.from l.chain.pieces) (map line_in l.initial.lines);
  fit : AllFit of_piece (length l.lines) l.chain.pieces;
}
