use Rattle.std.proofs.Common.{◌≡◌, map, take}
use Rattle.san_net.specs.Network.{span_in}
use Rattle.san_reward.proofs.same.same_spans.Given as goal

abbrev pub invariant-loop-at : goal.invariant-loop-at
invariant-loop-at l = map span_in (take l.at l.a) ≡ map span_in (take l.at l.b)
