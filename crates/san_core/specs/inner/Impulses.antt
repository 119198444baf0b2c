-- The impulses of a piece's first events.
use Rattle.std.specs.Prelude.{ℕ, zero, suc, ◌+◌, ◌++◌, List, []}
use Rattle.san_law.specs.Net as net
use Rattle.san_leaf.specs.Events.{impulses_at}
use Rattle.san_leaf.specs.declared.recorder.Impulse.{Impulse}

-- those of so many events, from a number on
abbrev pub impulses_from : ℕ → ℕ → List Impulse → List net.Impulse
impulses_from i zero xs = []
impulses_from i (suc n) xs = impulses_at i xs ++ impulses_from (i + 1) n xs
