use Rattle.san_decide.proofs.Pieces.{reads_decide}
use Rattle.san_decide.proofs.laws.what_a_piece_reads_decides_it.Goals as goal

pub returns : goal.returns
returns c = reads_decide
