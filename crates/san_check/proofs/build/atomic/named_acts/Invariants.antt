use Rattle.std.proofs.Common.{◌≡◌, [], drop}
use Rattle.san_check.specs.walk.Atomic.{all_acts}
use Rattle.san_check.proofs.build.atomic.named_acts.Given as goal

abbrev pub invariant-acts : goal.invariant-acts
invariant-acts l = all_acts l.acts (drop l.decl-index l.decls) ≡ all_acts [] l.decls
