-- The rows of a network's leaves before the first step.
use Rattle.std.specs.Prelude.{List, map, length}
use Rattle.san_law.specs.Net.{Row}
use Rattle.san_law.specs.State.{blank_row}
use Rattle.san_net.specs.declared.part.Part.{Part}

abbrev pub rows_of : List Part → List Row
rows_of parts = map (λ p. blank_row (length p.atomic.acts)) parts
