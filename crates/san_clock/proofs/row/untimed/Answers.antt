use Rattle.std.proofs.Common.{◌∙◌, None}
use Rattle.san_clock.proofs.RowLemmas.{one_more}
use Rattle.san_clock.proofs.row.untimed.Goals as goal

pub acts-preserved : goal.acts-preserved
acts-preserved c = c.in_ok-push.ensures.items ∙ one_more c.acts.k None c.acts.timers.items c.acts.invariant
