use Rattle.std.proofs.Common.{◌≡◌, length}
use Rattle.san_text.proofs.steps.many_after.Given as goal
use Rattle.san_text.specs.Steps.{many, gathered}

abbrev pub invariant-next : goal.invariant-next
invariant-next g l = gathered l.found.items (many g.T.Item.starting (g.T.Item.reading l.version l.braces) l.turns l.rest) ≡ gathered l.fn.found.items (many g.T.Item.starting (g.T.Item.reading l.version l.braces) (length l.fn.words) l.fn.words)

abbrev pub decreases-next : goal.decreases-next
decreases-next g l = l.turns
