use Rattle.std.proofs.Common.{◌≡◌, ◌++◌, drop, map}
use Rattle.san_check.specs.build.Activity.{act_of}
use Rattle.san_check.proofs.build.activity.acts_of.Given as goal

abbrev pub invariant-acts : goal.invariant-acts
invariant-acts l = l.made.items ++ map (act_of l.cells) (drop l.act-index l.acts) ≡ map (act_of l.cells) l.acts
