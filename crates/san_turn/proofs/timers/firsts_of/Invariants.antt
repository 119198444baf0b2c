use Rattle.std.proofs.Common.{◌≡◌, map, take}
use Rattle.san_net.specs.declared.part.Part.{Part}
use Rattle.san_turn.proofs.timers.firsts_of.Given as goal

abbrev pub invariant-leaves : goal.invariant-leaves
invariant-leaves l = l.firsts.items ≡ map (λ (p : Part). p.first.0) (take l.leaf l.flat.parts)
