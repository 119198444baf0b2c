use Rattle.san_book.proofs.Publishing.{log_fits, publication_is_read}
use Rattle.san_book.proofs.line.a_publication_is_read_place_by_place.Goals as goal

pub returns-clause-published : goal.returns-clause-published
returns-clause-published g c = λ m. publication_is_read m

pub returns-clause-fits : goal.returns-clause-fits
returns-clause-fits g c = λ m. log_fits m
