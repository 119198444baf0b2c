-- The core before the first piece.
use Rattle.std.specs.Prelude.{ℕ, List, [], ◌∷◌, map, take, None, true}
use Rattle.san_law.specs.Net.{Net, Row, Slot}
use Rattle.san_law.specs.State.{blank_rows, gather}
use Rattle.san_law.specs.Piece.{LeafState, privates}
use Rattle.san_law.specs.Reward.{zero_sum}
use Rattle.san_law.specs.Core.{Core}

-- leaf by leaf, with nothing seen
abbrev pub leaves_from : List (List Slot) → List Row → List ℕ → List LeafState
leaves_from [] rows m = []
leaves_from (p ∷ ps) [] m = []
leaves_from (p ∷ ps) (r ∷ rows) m = record { values = gather (privates p) m; row = r; seen = [] } ∷ leaves_from ps rows m

-- all leaves are unsettled and stale
abbrev pub opening_core : Net → Core
opening_core net = record {
  leaves = leaves_from net.parts (blank_rows net 0 net.parts) net.initial;
  shared = take net.shared net.initial;
  order = record { going = None; unsettled = map (λ p. true) net.parts; stale = map (λ p. true) net.parts; dues = map (λ p. None) net.parts; time = 0 };
  burst = 0;
  count = 0;
  events = [];
  tally = record { rates = map (λ p. []) net.parts; sums = map (λ s. zero_sum) net.spans; impulses = 0 };
  stop = None;
}
