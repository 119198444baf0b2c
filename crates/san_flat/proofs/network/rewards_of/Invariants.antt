use Rattle.std.proofs.Common.{◌≡◌, take}
use Rattle.san_flat.proofs.network.rewards_of.Given as goal

abbrev pub invariant-rewards : goal.invariant-rewards
invariant-rewards l = l.copies.items ≡ take l.reward-index l.rewards
