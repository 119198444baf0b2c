use Rattle.std.proofs.Common.{◌++◌, ◌≡◌, take}
use Rattle.san_batch.specs.Texts.{batch_lines, runs_line}
use Rattle.san_batch.proofs.text.batch_text.Given as goal

abbrev pub invariant-rewards : goal.invariant-rewards
invariant-rewards l = l.text.items ≡ runs_line l.batch.runs l.batch.stopped ++ batch_lines (take l.r l.flat.rewards) l.batch.rewards
