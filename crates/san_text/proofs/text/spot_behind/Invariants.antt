use Rattle.std.proofs.Common.{◌≡◌, ◌+◌, ◌≤◌, drop}
use Rattle.san_text.specs.Texts.{spot_after}
use Rattle.san_text.proofs.text.spot_behind.Given as goal

abbrev pub invariant-next : goal.invariant-next
invariant-next l = record {
  line : l.line ≤ 1 + l.b-index;
  column : l.column ≤ 1 + l.b-index;
  spot : spot_after l.line l.column (drop l.b-index l.bytes) ≡ spot_after 1 1 l.bytes;
}
