use Rattle.san_law.proofs.Standing.{pieces_keep}
use Rattle.san_law.proofs.law.pieces_keep_the_standing.Goals as goal

pub returns : goal.returns
returns c = pieces_keep
