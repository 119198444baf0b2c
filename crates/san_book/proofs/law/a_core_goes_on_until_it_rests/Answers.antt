use Rattle.san_book.proofs.Ending.{goes_on_by_redo, rests_or_ended}
use Rattle.san_book.proofs.law.a_core_goes_on_until_it_rests.Goals as goal

pub returns-clause-redo : goal.returns-clause-redo
returns-clause-redo g c = λ m. goes_on_by_redo m

pub returns-clause-rest : goal.returns-clause-rest
returns-clause-rest g c = λ m. rests_or_ended m
