use Rattle.san_book.proofs.Replaying.{journal_is_short, runs_are_brief}
use Rattle.san_book.proofs.law.a_journal_is_bounded.Goals as goal

pub returns-clause-steps : goal.returns-clause-steps
returns-clause-steps g c = λ m law. runs_are_brief m law

pub returns-clause-run : goal.returns-clause-run
returns-clause-run g c = λ m law. journal_is_short m law
