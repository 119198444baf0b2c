-- Draws and rows that don't agree.
use Rattle.san_legal.proofs.DrawValues.{next_differ, not_sized, one_more, too_great}
use Rattle.san_legal.proofs.draw_examples.agreeing_draws.Goals as goal

pub returns-clause-not_words : goal.returns-clause-not_words
returns-clause-not_words c = too_great

pub returns-clause-not_taken : goal.returns-clause-not_taken
returns-clause-not_taken c = one_more

pub returns-clause-not_next : goal.returns-clause-not_next
returns-clause-not_next c = next_differ

pub returns-clause-not_sized : goal.returns-clause-not_sized
returns-clause-not_sized c = not_sized
