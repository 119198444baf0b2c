use Rattle.std.proofs.Common.{◌≡◌, map, take}
use Rattle.san_leaf.specs.Pieces.{opened_state}
use Rattle.san_core.proofs.start.first_states.Given as goal

abbrev pub invariant-leaves : goal.invariant-leaves
invariant-leaves l = l.states.items ≡ map opened_state (take l.leaf l.flat.parts)
