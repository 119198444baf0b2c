use Rattle.san_book.proofs.Replaying.{every_run, opens_well}
use Rattle.san_book.proofs.law.every_run_keeps_the_law.Goals as goal

pub returns-clause-opening : goal.returns-clause-opening
returns-clause-opening g c = λ m. opens_well m

pub returns-clause-run : goal.returns-clause-run
returns-clause-run g c = λ m law. every_run m law
