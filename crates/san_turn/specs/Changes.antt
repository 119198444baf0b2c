-- The value of an order of needs, and what a taken piece changes of it, by what the order needs of the piece.
use Rattle.std.specs.Prelude.{ℕ, ◌-◌, nat_eq, List, map, Option, Some, None, Bool, true, false, ◌||◌, slice_index, slice_set, if◌then◌else◌}
use Rattle.san_base.specs.declared.numbers.ActId.{ActId}
use Rattle.san_base.specs.declared.numbers.Tick.{Tick}
use Rattle.san_base.specs.declared.piece.Kind.{Kind}
use Rattle.san_base.specs.declared.piece.Kind.TheVariants as kind
use Rattle.san_law.specs.Net.{Net}
use Rattle.san_law.specs.Opening.{opening_core}
use Rattle.san_law.specs.Order.{Order, any_in, flags_from, going_after}
use Rattle.san_law.specs.State.{slots_of}
use Rattle.san_net.specs.declared.part.Part.{Part}
use Rattle.san_turn.specs.declared.need.Taken.{Taken}

-- the law's order, the numbers of the leaves' first activities, and the horizon
pub record OrderValue : Type 0 where
  pub order : Order
  pub firsts : List ℕ
  pub horizon : ℕ

-- the law's order before the first piece
abbrev pub opened : Net → List Part → ℕ → OrderValue
opened net parts horizon = record { order = (opening_core net).order; firsts = map (λ p. p.first.0) parts; horizon = horizon }

-- the piece's leaf gets its own flag; that of another leaf goes up where it has a written place
abbrev pub flag_after : Net → ℕ → List ℕ → Bool → ℕ → Bool → Bool
flag_after net j places own i b = if nat_eq i j then own else (b || any_in places (slots_of net i))

-- after a block, by its written places, the leaf's least timer, and whether there is more
abbrev pub order_of_block : Net → Order → ℕ → ℕ → List ℕ → Option (ℕ × ℕ) → Bool → Order
order_of_block net o time j places due more = record {
  going = going_after j more;
  unsettled = flags_from (flag_after net j places false) 0 o.unsettled;
  stale = flags_from (flag_after net j places true) 0 o.stale;
  dues = slice_set o.dues j due;
  time = time;
}

-- after a renewal, by the leaf's least timer
abbrev pub order_of_renewal : Order → ℕ → ℕ → Option (ℕ × ℕ) → Order
order_of_renewal o time j due = record {
  going = o.going;
  unsettled = o.unsettled;
  stale = slice_set o.stale j false;
  dues = slice_set o.dues j due;
  time = time;
}

-- a timer of a leaf with this first activity: when it is due, and its activity by its number in the leaf
abbrev pub local_due : ℕ → Option (Tick × ActId) → Option (ℕ × ℕ)
local_due first None = None
local_due first (Some due) = Some (due.0.0, due.1.0 - first)

-- by the kind of a piece of a leaf, whose first activity has this number
abbrev pub order_by : Net → Order → ℕ → ℕ → Taken → Kind → Order
order_by net o j first t kind.Refresh = order_of_renewal o t.time.0 j (local_due first t.due)
order_by net o j first t kind.Settle = order_of_block net o t.time.0 j (map (λ place. place.0) t.written.items) (local_due first t.due) t.more
order_by net o j first t (kind.Fire act) = order_of_block net o t.time.0 j (map (λ place. place.0) t.written.items) (local_due first t.due) t.more

abbrev pub order_taken : Net → Order → ℕ → ℕ → Taken → Order
order_taken net o j first t = order_by net o j first t t.kind

-- an order that has taken a piece of a leaf
abbrev pub after_taking : Net → OrderValue → ℕ → Taken → OrderValue
after_taking net v j t = record { order = order_taken net v.order j (slice_index v.firsts j) t; firsts = v.firsts; horizon = v.horizon }
