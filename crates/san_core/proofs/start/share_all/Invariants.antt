use Rattle.std.proofs.Common.{◌≡◌, take}
use Rattle.san_core.proofs.start.share_all.Given as goal

abbrev pub invariant-states : goal.invariant-states
invariant-states l = l.shares.items ≡ take l.state-index l.states
