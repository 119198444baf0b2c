use Rattle.std.proofs.Common.{subst, sym}
use Rattle.san_serve.proofs.WrittenLemmas.{line_of}
use Rattle.san_serve.specs.Accepted.{IsRefusedText}
use Rattle.san_serve.specs.Answers.{IsRefused}
use Rattle.san_serve.specs.Bounds.{model_bound}
use Rattle.san_words.specs.declared.orders.HeardBatch.{HeardBatch}
use Rattle.san_batch.specs.inner.Heard.{HeardRefuses}
use Rattle.san_batch.proofs.words.run_heard.Goals as goal

pub returns-in-Batch-clause-noted : goal.returns-in-Batch-clause-noted
returns-in-Batch-clause-noted g c =
    let n = c.run_ordered.ensures.noted in
    let left = g.S.Source.left c.args.source.now in
    let rest = g.S.Source.left c.run_ordered.new.source in
    (n.0, line_of c.run_ordered.result (IsRefused model_bound IsRefusedText left rest) (HeardRefuses c.args.heard left rest) n.0 (λ r h. subst (λ (x : HeardBatch). HeardRefuses x left rest r) (sym c.in-Batch.is) h) n.1, n.2)
