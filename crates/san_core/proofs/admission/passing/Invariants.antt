use Rattle.std.proofs.Common.{◌-◌, ◌≡◌, ◌+◌, ◌≤◌}
use Rattle.san_core.specs.inner.Admits.{further, passes}
use Rattle.san_core.proofs.admission.passing.Given as goal

abbrev pub invariant-each : goal.invariant-each
invariant-each l = record {
  within : l.passed ≤ l.completions;
  passes : passes l.limits.burst l.limits.events l.burst l.count l.completions ≡ further l.passed (passes l.limits.burst l.limits.events (l.burst + l.passed) (l.count + l.passed) (l.completions - l.passed));
}

abbrev pub decreases-each : goal.decreases-each
decreases-each l = l.completions - l.passed
