use Rattle.san_report.proofs.PutLemmas.{text_is}
use Rattle.san_report.proofs.line.event_line.Goals as goal

pub returns-then-put_event : goal.returns-then-put_event
returns-then-put_event c = text_is _ _ _ _ _ c.new-text.ensures c.if-put_event.ensures
