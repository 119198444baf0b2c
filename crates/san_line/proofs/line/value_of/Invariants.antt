use Rattle.std.proofs.Common.{◌≡◌, drop}
use Rattle.san_line.specs.Lines.{find}
use Rattle.san_line.proofs.line.value_of.Given as goal

abbrev pub invariant-find : goal.invariant-find
invariant-find l = find l.leaf l.pos l.versions ≡ find l.leaf l.pos (drop l.version-index l.versions)
