use Rattle.san_serve.specs.Accepted.{IsRefusedText}
use Rattle.san_serve.specs.Answers.{IsRefused}
use Rattle.san_serve.specs.Bounds.{model_bound}
use Rattle.san_cmd.specs.Runs.{RefusesFrom}
use Rattle.san_cmd.proofs.RunLemmas.{line_of, read_refuses}
use Rattle.san_cmd.proofs.run.run_ordered.Goals as goal

pub returns-in-None-clause-noted : goal.returns-in-None-clause-noted
returns-in-None-clause-noted g c =
    let n = c.serve_noted.ensures.noted in
    let left = g.S.Source.left c.args.source.now in
    let rest = g.S.Source.left c.serve_noted.new.source in
    (n.0, line_of c.serve_noted.result (IsRefused model_bound IsRefusedText left rest) (RefusesFrom c.args.orders.make left rest) n.0 (λ r h. read_refuses c.args.orders.make left rest r c.in-None.is h) n.1, n.2)
