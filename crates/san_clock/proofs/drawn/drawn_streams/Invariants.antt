use Rattle.std.proofs.Common.{◌≡◌, take}
use Rattle.san_clock.specs.Drawn.{all_drawn}
use Rattle.san_clock.proofs.drawn.drawn_streams.Given as goal

abbrev pub invariant-leaves : goal.invariant-leaves
invariant-leaves l = l.drawn.items ≡ all_drawn (take l.leaf l.fn.flat.parts)
