use Rattle.std.proofs.Common.{refl, []}
use Rattle.san_report.proofs.PageLemmas.{straight}
use Rattle.san_report.proofs.pages.put_straight.Goals as goal

pub returns-then-not-flush-clause-bytes : goal.returns-then-not-flush-clause-bytes
returns-then-not-flush-clause-bytes g c = λ whole rest first p. c.if-not-flush.ensures.bytes whole _ first p

pub returns-clause-bytes : goal.returns-clause-bytes
returns-clause-bytes g c = λ whole rest first p. straight _ first _ _ [] _ _ whole rest refl c.if-not-flush.ensures.empty c.put_line.ensures.bytes_put (c.if-not-flush.ensures.bytes whole _ first p)
