use Rattle.san_report.proofs.PutLemmas.{text_is}
use Rattle.san_report.proofs.line.ending_line.Goals as goal

pub returns-then-put_ending : goal.returns-then-put_ending
returns-then-put_ending c = text_is _ _ _ _ _ c.new-text.ensures c.if-put_ending.ensures
