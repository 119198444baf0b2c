-- What a completion leaves of a marking.
use Rattle.std.specs.Prelude.{ℕ, List, Result, Ok, Err}
use Rattle.san_base.specs.declared.ending.Trap.{Trap}
use Rattle.san_law.specs.Activity.{completed}
use Rattle.san_law.specs.Net.{Done, Row}
use Rattle.san_law.specs.Network.{Limits}
use Rattle.san_law.specs.State.{gather, scatter, slots_of}
use Rattle.san_net.specs.Laid.{places_of}
use Rattle.san_net.specs.Leaf.{leaf_of}
use Rattle.san_net.specs.Network.{Network, net_of}
use Rattle.san_net.specs.declared.part.Part.{Part}

-- the case, and the marking and the row that it leaves
abbrev pub completed_by : Result ℕ Trap → List ℕ → Row → Result (ℕ × List ℕ × Row) Trap
completed_by (Ok case) m row = Ok (case, m, row)
completed_by (Err trap) m row = Err trap

-- what the law's completion of a leaf leaves of them
abbrev pub done_left : List ℕ → List ℕ → Result Done Trap → Result (ℕ × List ℕ × Row) Trap
done_left places m (Ok d) = Ok (d.case, scatter places d.left.values m, d.left.row)
done_left places m (Err trap) = Err trap

-- a leaf's completion over a marking, with its next case draw
abbrev pub part_left : (ℕ → ℕ → ℕ) → Part → ℕ → List ℕ → Row → Result (ℕ × List ℕ × Row) Trap
part_left draw p k m row = done_left (places_of p) m (completed draw (leaf_of p) k (record { values = gather (places_of p) m; row = row }))

-- the law's completion of a leaf of the network over a marking
abbrev pub leaf_left : Network → (ℕ → ℕ → ℕ) → Limits → ℕ → ℕ → List ℕ → Row → Result (ℕ × List ℕ × Row) Trap
leaf_left n draw limits j k m row =
    done_left (slots_of (net_of n draw limits) j) m ((net_of n draw limits).done j k (record { values = gather (slots_of (net_of n draw limits) j) m; row = row }))
