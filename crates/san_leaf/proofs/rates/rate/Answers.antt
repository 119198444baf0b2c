use Rattle.std.proofs.Common.{◌∙◌}
use Rattle.san_leaf.proofs.RenewalLemmas.{rate_is}
use Rattle.san_leaf.proofs.rates.rate.Goals as goal

pub returns : goal.returns
returns c =
    let is = rate_is c.args.cells.now c.eval.new.view c.args.expr.now c.eval.result c.eval.ensures in
    record { rate = c.rated.ensures ∙ is.0; same = is.1 }
