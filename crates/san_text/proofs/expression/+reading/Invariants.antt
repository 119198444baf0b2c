use Rattle.std.proofs.Common.{◌+◌, ◌-◌, ◌*◌, ◌^◌}
use Rattle.san_text.proofs.expression.+reading.Given as goal

abbrev pub decreases-unary : goal.decreases-unary
decreases-unary l = l.depth * 2 ^ 80

abbrev pub decreases-called : goal.decreases-called
decreases-called l = l.depth * 2 ^ 80 + 2 ^ 50

abbrev pub decreases-level : goal.decreases-level
decreases-level l = l.depth * 2 ^ 80 + 1 + l.level * 2 ^ 40

abbrev pub decreases-more : goal.decreases-more
decreases-more l = l.depth * 2 ^ 80 + 2 + l.turns + (l.level - 1) * 2 ^ 40

abbrev pub decreases-grouped : goal.decreases-grouped
decreases-grouped l = l.depth * 2 ^ 80 + 2 ^ 50
