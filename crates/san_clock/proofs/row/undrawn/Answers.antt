use Rattle.std.proofs.Common.{◌∙◌}
use Rattle.san_clock.proofs.RowLemmas.{one_more}
use Rattle.san_clock.proofs.row.undrawn.Goals as goal

pub acts-preserved : goal.acts-preserved
acts-preserved c = c.in_ok-push.ensures.items ∙ one_more c.acts.k 0 c.acts.numbers.items c.acts.invariant
