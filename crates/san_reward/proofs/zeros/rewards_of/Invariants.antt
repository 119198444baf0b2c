use Rattle.std.proofs.Common.{◌≡◌, map, take}
use Rattle.san_reward.proofs.zeros.rewards_of.Given as goal

abbrev pub invariant-loop-term : goal.invariant-loop-term
invariant-loop-term l = l.rewards.items ≡ map (λ t. t.reward) (take l.term-index l.terms)
