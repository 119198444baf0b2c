use Rattle.san_cmd.specs.Runs.{RefusesFrom}
use Rattle.san_cmd.specs.inner.Heard.{HeardRefuses}
use Rattle.san_cmd.proofs.RunLemmas.{line_of, orders_refuse}
use Rattle.san_cmd.proofs.run.run_heard.Goals as goal

pub returns-in-Run-clause-noted : goal.returns-in-Run-clause-noted
returns-in-Run-clause-noted g c =
    let n = c.run_ordered.ensures.noted in
    let left = g.S.Source.left c.args.source.now in
    let rest = g.S.Source.left c.run_ordered.new.source in
    (n.0, line_of c.run_ordered.result (RefusesFrom c.in-Run.orders.make left rest) (HeardRefuses c.args.heard left rest) n.0 (λ r h. orders_refuse c.args.heard c.in-Run.orders left rest r c.in-Run.is h) n.1, n.2)
