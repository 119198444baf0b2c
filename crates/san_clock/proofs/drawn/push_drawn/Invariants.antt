use Rattle.std.proofs.Common.{◌≡◌, ◌++◌, take}
use Rattle.san_clock.specs.Drawn.{drawn_in}
use Rattle.san_clock.proofs.drawn.push_drawn.Given as goal

abbrev pub invariant-acts : goal.invariant-acts
invariant-acts l = l.drawn.items ≡ l.fn.drawn.items ++ drawn_in (take l.act-index l.fn.acts)
