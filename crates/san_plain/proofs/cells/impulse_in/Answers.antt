use Rattle.std.proofs.Common.{◌∙◌, ap, List, ℕ}
use Rattle.san_base.specs.Rated.{term_value}
use Rattle.san_net.specs.Leaf.{impulse_in}
use Rattle.san_plain.proofs.ImpulseLemmas.{value_there}
use Rattle.san_plain.proofs.cells.impulse_in.Goals as goal

pub returns : goal.returns
returns c =
    value_there c.args.term.now c.new-cells.result c.eval.new.view c.eval.result (term_value c.rated.result) c.eval.ensures c.rated.ensures
    ∙ ap (λ (v : List ℕ). (impulse_in v c.args.term.now).rated) c.new-cells.ensures
