use Rattle.san_law.proofs.Rest.{after_more, more_pieces, no_more_pieces, rest_of_pieces}
use Rattle.san_law.proofs.start.pieces_go_on.Goals as goal

pub returns-clause-after : goal.returns-clause-after
returns-clause-after c = after_more

pub returns-clause-rest : goal.returns-clause-rest
returns-clause-rest c = rest_of_pieces

pub returns-clause-more : goal.returns-clause-more
returns-clause-more c = more_pieces

pub returns-clause-no_more : goal.returns-clause-no_more
returns-clause-no_more c = no_more_pieces
