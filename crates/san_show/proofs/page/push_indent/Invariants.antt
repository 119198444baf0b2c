use Rattle.std.proofs.Common.{◌≡◌, ◌++◌, ◌*◌}
use Rattle.san_lex.specs.Layout.{spaces}
use Rattle.san_show.proofs.page.push_indent.Given as goal

abbrev pub invariant-next : goal.invariant-next
invariant-next l = l.bytes.items ++ spaces (2 * l.left) ≡ l.initial.bytes.items ++ spaces (2 * l.levels)

abbrev pub decreases-next : goal.decreases-next
decreases-next l = l.left
