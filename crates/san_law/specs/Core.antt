-- The committed part of a core, and what taking a piece makes of it.
use Rattle.std.specs.Prelude.{ℕ, zero, suc, ◌+◌, List, [], ◌∷◌, ◌++◌, length, Option, Some, None, slice_index_or, slice_set}
use Rattle.san_law.specs.Net.{Local, Net, Rated}
use Rattle.san_law.specs.Step.{Ending, Event}
use Rattle.san_law.specs.Admitted.{Admitted, admitted, admitted_fire}
use Rattle.san_law.specs.Piece.{Fire, Kind, LeafState, Outcome, Refresh, Settle, no_leaf, piece_of, sees}
use Rattle.san_law.specs.Order.{Finished, Need, Needs, Order, need_of, order_after, order_renewed}
use Rattle.san_law.specs.Tally.{Tally, tally_after}

-- the leaves' states, the values of the shared places, the order, the burst, the count of events with those before the start, the events since the start, the tally, and perhaps a stop
pub record Core : Type 0 where
  pub leaves : List LeafState
  pub shared : List ℕ
  pub order : Order
  pub burst : ℕ
  pub count : ℕ
  pub events : List Event
  pub tally : Tally
  pub stop : Option Ending

-- a leaf's committed state
abbrev pub leaf_of : Core → ℕ → LeafState
leaf_of c j = slice_index_or c.leaves j no_leaf

-- a leaf's present rates
abbrev pub rates_of : Core → ℕ → List Rated
rates_of c j = slice_index_or c.tally.rates j []

-- what a leaf sees of the committed values
abbrev pub leaf_view_of : Net → Core → ℕ → Local
leaf_view_of net c j = sees net j (leaf_of c j) c.shared

-- values with these written over
abbrev pub put : List (ℕ × ℕ) → List ℕ → List ℕ
put [] shared = shared
put (w ∷ ws) shared = slice_set (put ws shared) w.0 w.1

-- the tally when the time has come to one, with the events then
abbrev pub tally_at : Net → Core → ℕ → List Event → Tally
tally_at net c time es = tally_after net c.tally c.order.time time es

-- a block is taken whole
abbrev pub with_block : Net → Core → ℕ → ℕ → ℕ → ℕ → List Event → Outcome → Core
with_block net c time burst count j es b = record {
  leaves = slice_set c.leaves j b.state;
  shared = put b.writes c.shared;
  order = order_after net c.order time j b;
  burst = burst;
  count = count;
  events = c.events ++ es;
  tally = tally_at net c time es;
  stop = None;
}

-- a renewal is taken; it has no events and takes no time
abbrev pub with_renewal : Net → Core → ℕ → ℕ → Outcome → Core
with_renewal net c time j b = record {
  leaves = slice_set c.leaves j b.state;
  shared = c.shared;
  order = order_renewed c.order time j b;
  burst = c.burst;
  count = c.count;
  events = c.events;
  tally = record { rates = slice_set c.tally.rates j b.rates; sums = c.tally.sums; impulses = c.tally.impulses };
  stop = None;
}

-- a limit or a trap stops the core: the time, the tally and the events that were let through are the piece's; the leaf's state, the shared values and the order stay
abbrev pub stopped : Net → Core → ℕ → ℕ → List Event → Ending → Core
stopped net c time burst es e = record {
  leaves = c.leaves;
  shared = c.shared;
  order = record { going = c.order.going; unsettled = c.order.unsettled; stale = c.order.stale; dues = c.order.dues; time = time };
  burst = burst;
  count = c.count + length es;
  events = c.events ++ es;
  tally = tally_at net c time es;
  stop = Some e;
}

-- the burst after so many completions of a piece: a fired one sets it to 0
abbrev pub burst_fired : ℕ → ℕ
burst_fired zero = 0
burst_fired (suc n) = n

-- a settled one adds to it
abbrev pub burst_after : Kind → ℕ → ℕ → ℕ
burst_after (Fire k) burst n = burst_fired n
burst_after Settle burst n = burst + n
burst_after Refresh burst n = burst + n

-- where a limit or a trap came the core stops, else the outcome is taken whole
abbrev pub take_admitted : Net → Core → ℕ → Kind → Admitted → (List Event → Core) → Core
take_admitted net c time kind (es, Some e) whole = stopped net c time (burst_after kind c.burst (length es)) es e
take_admitted net c time kind (es, None) whole = whole es

-- a piece's outcome, taken: its events one by one under the limits; then, where it came to no stop, what it made
abbrev pub taken : Net → Core → ℕ → Kind → ℕ → Outcome → Core
taken net c j Settle time o = take_admitted net c time Settle (admitted net time j c.burst c.count o.fault o.completions) (λ es. with_block net c time (burst_after Settle c.burst (length o.completions)) (c.count + length o.completions) j es o)
taken net c j (Fire k) time o = take_admitted net c time (Fire k) (admitted_fire net time j c.count o.fault o.completions) (λ es. with_block net c time (burst_after (Fire k) c.burst (length o.completions)) (c.count + length o.completions) j es o)
taken net c j Refresh time o = take_admitted net c time Refresh (admitted net time j c.burst c.count o.fault o.completions) (λ es. with_renewal net c time j o)

-- a piece of a leaf, made from the committed values and taken
abbrev pub take_piece : Net → Core → ℕ → Kind → ℕ → Core
take_piece net c j kind time = taken net c j kind time (piece_of net j kind time (leaf_of c j) c.shared)

-- the needed piece is taken, where one is needed
abbrev pub take_need : Net → Core → Need → Core
take_need net c (Needs j kind time) = take_piece net c j kind time
take_need net c Finished = c

-- the needed piece is made from the committed values and taken
unfoldable pub advance : Net → Core → Core
advance net c = take_need net c (need_of net.horizon c.order)

-- so many needed pieces, until a stop
abbrev pub advance_by : Net → Core → Option Ending → Core
advance_by net c None = advance net c
advance_by net c (Some e) = c

-- one piece after another
unfoldable pub after_pieces : Net → ℕ → Core → Core
after_pieces net zero c = c
after_pieces net (suc n) c = let d = after_pieces net n c in advance_by net d d.stop
