use Rattle.std.proofs.Common.{arith, sym, ◌∙◌}
use Rattle.san_clock.proofs.DueLemmas.{least_within}
use Rattle.san_core.proofs.news.due_of.Goals as goal

pub overflow_add-result : goal.overflow_add-result
overflow_add-result c = let h = least_within c.args.row.now (c.in_ok-due.due, c.in_ok-due.act) (sym c.least_of.ensures ∙ c.in_ok-due.was) in omega (arith, h, c.requires.first, c.requires.row)
