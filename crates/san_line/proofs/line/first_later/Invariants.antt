use Rattle.std.proofs.Common.{◌≡◌, drop}
use Rattle.san_line.specs.Lines.{next_after}
use Rattle.san_line.proofs.line.first_later.Given as goal

abbrev pub invariant-next : goal.invariant-next
invariant-next l = next_after l.leaf l.after l.versions ≡ next_after l.leaf l.after (drop l.version-index l.versions)
