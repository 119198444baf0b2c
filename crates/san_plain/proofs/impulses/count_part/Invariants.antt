use Rattle.std.proofs.Common.{◌+◌, ◌≤◌, ◌≡◌, ◌^◌, drop, length}
use Rattle.san_law.specs.State.{gather}
use Rattle.san_net.specs.Laid.{places_of}
use Rattle.san_net.specs.Leaf.{impulses_in}
use Rattle.san_reward.specs.Running.{with_impulses}
use Rattle.san_plain.proofs.impulses.count_part.Given as goal

abbrev pub invariant-terms : goal.invariant-terms
invariant-terms l = record {
  left : with_impulses l.tally (impulses_in (drop l.at l.part.atomic.impulses) l.act (gather (places_of l.part) l.marking)) ≡ with_impulses l.fn.tally (impulses_in l.part.atomic.impulses l.act (gather (places_of l.part) l.marking));
  few : l.tally.tally.impulses + length (impulses_in (drop l.at l.part.atomic.impulses) l.act (gather (places_of l.part) l.marking)) ≤ 2 ^ 40;
  spans : l.tally.spans ≡ l.fn.tally.spans;
}
