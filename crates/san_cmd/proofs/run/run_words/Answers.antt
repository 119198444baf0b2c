use Rattle.std.specs.Prelude.{map, string_bytes}
use Rattle.san_words.specs.Commands.{run_app}
use Rattle.san_words.specs.Hears.{OrdersSay}
use Rattle.san_cmd.proofs.RunLemmas.{heard_refuses, heard_settled, heard_unread, line_of}
use Rattle.san_cmd.proofs.run.run_words.Goals as goal

pub returns-clause-generated : goal.returns-clause-generated
returns-clause-generated g c = λ given. c.run_heard.ensures.generated (heard_unread run_app OrdersSay (map string_bytes c.args.words.now) (λ texts o said. said.make_said) c.hear-heard.result c.hear-heard.ensures.heard given)

pub returns-clause-complete : goal.returns-clause-complete
returns-clause-complete g c = heard_settled run_app OrdersSay (map string_bytes c.args.words.now) c.hear-heard.result c.run_heard.result _ _ _ _ c.hear-heard.ensures.heard c.hear-heard.ensures.can_run c.run_heard.ensures.answer

pub returns-clause-noted : goal.returns-clause-noted
returns-clause-noted g c =
    let n = c.run_heard.ensures.noted in
    (n.0, line_of c.run_heard.result _ _ n.0 (λ r h. heard_refuses run_app OrdersSay (map string_bytes c.args.words.now) c.hear-heard.result _ _ r c.hear-heard.ensures.heard h) n.1, n.2)
