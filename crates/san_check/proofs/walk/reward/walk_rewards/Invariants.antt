use Rattle.std.proofs.Common.{◌≡◌, [], drop}
use Rattle.san_check.specs.inner.Walks.{seen_all}
use Rattle.san_check.specs.walk.Reward.{rewards_entries}
use Rattle.san_check.proofs.walk.reward.walk_rewards.Given as goal

abbrev pub invariant-rewards : goal.invariant-rewards
invariant-rewards l = seen_all l.walk (rewards_entries l.models l.rewards l.n (drop l.n l.decls)) ≡ seen_all l.fn.walk (rewards_entries l.models [] 0 l.decls)
