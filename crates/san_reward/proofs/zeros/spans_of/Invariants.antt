use Rattle.std.proofs.Common.{◌≡◌, map, take}
use Rattle.san_reward.proofs.zeros.spans_of.Given as goal

abbrev pub invariant-loop-reward : goal.invariant-loop-reward
invariant-loop-reward l = l.spans.items ≡ map (λ r. r.span) (take l.reward-index l.rewards)
