use Rattle.std.specs.Prelude.{map, string_bytes}
use Rattle.san_serve.proofs.WrittenLemmas.{line_of}
use Rattle.san_passage.proofs.HeardLemmas.{heard_refuses, heard_settled}
use Rattle.san_passage.proofs.words.first_words.Goals as goal

pub returns-clause-complete : goal.returns-clause-complete
returns-clause-complete g c = heard_settled (map string_bytes c.args.words.now) c.hear_first-heard.result c.run_heard.result _ _ _ _ c.hear_first-heard.ensures.heard c.run_heard.ensures.answer

pub returns-clause-noted : goal.returns-clause-noted
returns-clause-noted g c =
    let n = c.run_heard.ensures.noted in
    (n.0, line_of c.run_heard.result _ _ n.0 (λ r h. heard_refuses (map string_bytes c.args.words.now) c.hear_first-heard.result _ _ r c.hear_first-heard.ensures.heard h) n.1, n.2)
