use Rattle.san_report.proofs.PageLemmas.{flushed}
use Rattle.san_report.proofs.pages.flush.Goals as goal

pub returns-then-gone-clause-bytes : goal.returns-then-gone-clause-bytes
returns-then-gone-clause-bytes g c = λ whole rest first p. flushed _ first _ _ _ _ whole rest c.bytes.ensures c.put_all-gone.ensures.bytes p

pub returns-else-gone-clause-bytes : goal.returns-else-gone-clause-bytes
returns-else-gone-clause-bytes g c = λ whole rest first p. flushed _ first _ _ _ _ whole rest c.bytes.ensures c.put_all-gone.ensures.bytes p
