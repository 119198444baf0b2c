use Rattle.std.proofs.Common.{◌≡◌, drop}
use Rattle.san_net.specs.Below.{acts_below}
use Rattle.san_net.proofs.below.acts_below.Given as goal

abbrev pub invariant-loop-act : goal.invariant-loop-act
invariant-loop-act l = acts_below l.acts l.places ≡ acts_below (drop l.act-index l.acts) l.places
