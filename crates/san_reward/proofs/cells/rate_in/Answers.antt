use Rattle.std.proofs.Common.{◌∙◌, ap, List, ℕ}
use Rattle.san_net.specs.Leaf.{rate_in}
use Rattle.san_reward.proofs.CellsRead.{value_there}
use Rattle.san_reward.proofs.cells.rate_in.Goals as goal

pub returns : goal.returns
returns c = value_there c.args.term.now c.new-cells.result c.eval.new.view c.eval.result c.rated.result c.eval.ensures c.rated.ensures ∙ ap (λ (v : List ℕ). rate_in v c.args.term.now) c.new-cells.ensures
