use Rattle.std.proofs.Common.{◌≡◌, ◌++◌, drop, map}
use Rattle.san_check.specs.build.Reward.{reward_of}
use Rattle.san_check.proofs.build.reward.all_rewards.Given as goal

abbrev pub invariant-rewards : goal.invariant-rewards
invariant-rewards l = l.made.items ++ map (reward_of l.atomics) (drop l.decl-index l.decls) ≡ map (reward_of l.atomics) l.decls
