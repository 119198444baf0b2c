use Rattle.san_book.proofs.Subject.{net_is_lawful}
use Rattle.san_book.proofs.nets.the_book_has_a_subject.Goals as goal

pub returns : goal.returns
returns c = λ net kinds. net_is_lawful net kinds
