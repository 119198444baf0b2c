use Rattle.san_law.proofs.Pieces.{pieces_are_needed}
use Rattle.san_law.proofs.law.pieces_are_the_needed_ones.Goals as goal

pub returns : goal.returns
returns c = pieces_are_needed
