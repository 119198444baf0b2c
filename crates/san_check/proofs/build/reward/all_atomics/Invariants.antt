use Rattle.std.proofs.Common.{◌≡◌, [], drop}
use Rattle.san_check.specs.build.Reward.{all_atomics}
use Rattle.san_check.proofs.build.reward.all_atomics.Given as goal

abbrev pub invariant-models : goal.invariant-models
invariant-models l = all_atomics l.atomics (drop l.decl-index l.decls) ≡ all_atomics [] l.decls
