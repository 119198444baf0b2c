use Rattle.std.proofs.Common.{◌≡◌, ◌++◌, drop}
use Rattle.san_check.specs.build.Atomic.{atomics_from}
use Rattle.san_check.proofs.build.atomic.atomics_from.Given as goal

abbrev pub invariant-models : goal.invariant-models
invariant-models l = l.atomics.items ++ atomics_from l.rewards (drop l.decl-index l.decls) ≡ atomics_from l.rewards l.decls
