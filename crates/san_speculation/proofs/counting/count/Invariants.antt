use Rattle.std.proofs.Common.{◌*◌, ◌≡◌, ◌≤◌, map, take}
use Rattle.san_speculation.specs.Counting.{counts_in}
use Rattle.san_speculation.specs.Speculating.{step_in}
use Rattle.san_speculation.proofs.counting.count.Given as goal

abbrev pub invariant-steps : goal.invariant-steps
invariant-steps l = record {
  is : l.counts ≡ counts_in (map step_in (take l.step-index l.steps)) l.rollbacks;
  claims : l.counts.claims ≤ l.step-index;
  late : l.counts.late ≤ l.step-index;
  committed : l.counts.committed ≤ 4294967295 * l.step-index;
  redone : l.counts.redone ≤ l.step-index;
}
