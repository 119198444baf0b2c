use Rattle.san_book.proofs.Replaying.{rollbacks_are_few}
use Rattle.san_book.proofs.law.rollbacks_are_bounded.Goals as goal

pub returns-clause-run : goal.returns-clause-run
returns-clause-run g c = λ m law. rollbacks_are_few m law
