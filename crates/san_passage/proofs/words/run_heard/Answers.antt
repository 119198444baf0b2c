use Rattle.std.proofs.Common.{subst, sym}
use Rattle.san_serve.proofs.WrittenLemmas.{line_of}
use Rattle.san_serve.specs.Answers.{IsRefused}
use Rattle.san_serve.specs.Bounds.{model_bound}
use Rattle.san_words.specs.declared.orders.HeardFirst.{HeardFirst}
use Rattle.san_passage.specs.Firsts.{first_meaning}
use Rattle.san_passage.specs.inner.Heard.{HeardRefuses}
use Rattle.san_passage.proofs.words.run_heard.Goals as goal

pub returns-in-First-clause-noted : goal.returns-in-First-clause-noted
returns-in-First-clause-noted g c =
    let n = c.run_ordered.ensures.noted in
    let left = g.S.Source.left c.args.source.now in
    let rest = g.S.Source.left c.run_ordered.new.source in
    (n.0, line_of c.run_ordered.result (IsRefused model_bound (first_meaning c.in-First.orders).refuses left rest) (HeardRefuses c.args.heard left rest) n.0 (λ r h. subst (λ (x : HeardFirst). HeardRefuses x left rest r) (sym c.in-First.is) h) n.1, n.2)
