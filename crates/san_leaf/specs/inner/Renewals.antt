-- The outcome of a renewal, by the row that it leaves.
use Rattle.std.specs.Prelude.{ℕ, List, [], ◌∷◌, map, Bool, false, ◌||◌, None, Result, Ok, Err, if◌then◌else◌}
use Rattle.san_base.specs.declared.ending.Trap.{Trap}
use Rattle.san_law.specs.Block.{FailsTest}
use Rattle.san_law.specs.Clocks.{has_pair}
use Rattle.san_law.specs.Net.{Faulty, Fresh, Renewing, Row}
use Rattle.san_law.specs.Piece.{LeafState, Outcome}
use Rattle.san_net.specs.Instants.{Named}
use Rattle.san_net.specs.Leaf.{kind_in, rate_in}
use Rattle.san_net.specs.declared.part.Part.{Part}
use Rattle.san_leaf.specs.inner.Ends.{idle}

-- some activity has a pair
abbrev pub any_pair : List Named → Bool
any_pair [] = false
any_pair (a ∷ acts) = has_pair (kind_in a.1.kind) || any_pair acts

abbrev pub renewing_in : Result Row (ℕ × Trap) → Renewing
renewing_in (Ok row) = Fresh row
renewing_in (Err fault) = Faulty fault.0 fault.1

abbrev pub renewed_by : Part → LeafState → List ℕ → Row → Outcome
renewed_by p base values row = record {
  completions = [];
  writes = [];
  state = record { values = base.values; row = row; seen = if any_pair p.atomic.acts then values else [] };
  rates = map (rate_in values) p.atomic.rates;
  fault = None;
  more = false;
}

-- a trap leaves the state as it was
abbrev pub refreshed_by : Part → LeafState → List ℕ → Renewing → Outcome
refreshed_by p base values (Fresh row) = renewed_by p base values row
refreshed_by p base values (Faulty k trap) = idle base (FailsTest k trap)
