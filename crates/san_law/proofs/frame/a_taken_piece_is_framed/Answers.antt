use Rattle.san_law.proofs.Frames.{others_stay, own_is_the_pieces, unwritten_stay}
use Rattle.san_law.proofs.frame.a_taken_piece_is_framed.Goals as goal

pub returns-clause-others : goal.returns-clause-others
returns-clause-others c = others_stay

pub returns-clause-own : goal.returns-clause-own
returns-clause-own c = own_is_the_pieces

pub returns-clause-shared : goal.returns-clause-shared
returns-clause-shared c = unwritten_stay
