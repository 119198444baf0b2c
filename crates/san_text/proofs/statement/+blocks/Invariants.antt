use Rattle.std.proofs.Common.{◌≡◌, ◌+◌, ◌*◌, length}
use Rattle.san_text.proofs.statement.+blocks.Given as goal
use Rattle.san_text.specs.Statements.{starts_stmt, stmt_at, block}
use Rattle.san_text.specs.Steps.{many, gathered}

abbrev pub decreases-block : goal.decreases-block
decreases-block l = l.braces * 8

abbrev pub decreases-otherwise : goal.decreases-otherwise
decreases-otherwise l = l.braces * 8 + 1

abbrev pub decreases-if_at : goal.decreases-if_at
decreases-if_at l = l.braces * 8 + 2

abbrev pub decreases-statement : goal.decreases-statement
decreases-statement l = l.braces * 8 + 3

abbrev pub decreases-statements : goal.decreases-statements
decreases-statements l = l.braces * 8 + 4

abbrev pub decreases-inner : goal.decreases-inner
decreases-inner l = l.braces * 8 + 5

abbrev pub invariant-statements-next : goal.invariant-statements-next
invariant-statements-next l = gathered l.found.items (many starts_stmt (stmt_at l.version (block l.version l.braces)) l.turns l.rest) ≡ many starts_stmt (stmt_at l.version (block l.version l.braces)) (length l.fn.words) l.fn.words

abbrev pub decreases-statements-next : goal.decreases-statements-next
decreases-statements-next l = l.turns
