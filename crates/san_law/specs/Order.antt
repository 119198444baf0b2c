-- The order of needs: which piece comes next, and what a taken piece changes of that.
use Rattle.std.specs.Prelude.{ℕ, suc, nat_eq, nat_le, List, [], ◌∷◌, ◌||◌, Option, Some, None, Bool, true, false, slice_index_or, slice_set, if◌then◌else◌}
use Rattle.san_law.specs.Net.{Net, least_timer}
use Rattle.san_law.specs.State.{index_of, slots_of}
use Rattle.san_law.specs.Renewal.{Due, least_from}
use Rattle.san_law.specs.Piece.{Fire, Kind, Outcome, Refresh, Settle}

-- a leaf whose last piece had more to do, the unsettled and the stale leaves, each leaf's least timer (due, activity), and the time
pub record Order : Type 0 where
  pub going : Option ℕ
  pub unsettled : List Bool
  pub stale : List Bool
  pub dues : List (Option (ℕ × ℕ))
  pub time : ℕ

-- a leaf's flag
abbrev pub flag : List Bool → ℕ → Bool
flag bs i = slice_index_or bs i false

-- this one where it is set
abbrev pub or_suc : Bool → ℕ → Option ℕ → Option ℕ
or_suc true i rest = Some i
or_suc false i rest = rest

-- the first that is set, counted from a number
abbrev pub first_true : ℕ → List Bool → Option ℕ
first_true i [] = None
first_true i (b ∷ bs) = or_suc b i (first_true (suc i) bs)

-- the piece that is needed: of a leaf, of a kind, at a time; or none
pub data Need : Type 0 where
  Needs : (leaf : ℕ) (kind : Kind) (time : ℕ) → Need
  Finished : Need

-- a timer after the horizon is not needed
abbrev pub need_due : ℕ → Option Due → Need
need_due horizon None = Finished
need_due horizon (Some d) = if nat_le d.time horizon then Needs d.leaf (Fire d.act) d.time else Finished

-- the least stale leaf goes before all timers
abbrev pub need_stale : ℕ → Order → Option ℕ → Need
need_stale horizon o (Some j) = Needs j Refresh o.time
need_stale horizon o None = need_due horizon (least_from 0 o.dues)

-- the least unsettled leaf goes before all stale ones
abbrev pub need_unsettled : ℕ → Order → Option ℕ → Need
need_unsettled horizon o (Some j) = Needs j Settle o.time
need_unsettled horizon o None = need_stale horizon o (first_true 0 o.stale)

-- the going leaf goes first
abbrev pub need_going : ℕ → Order → Option ℕ → Need
need_going horizon o (Some j) = Needs j Settle o.time
need_going horizon o None = need_unsettled horizon o (first_true 0 o.unsettled)

-- settle the going leaf; else the least unsettled one; else refresh the least stale one; else fire the least timer by the horizon
unfoldable pub need_of : ℕ → Order → Need
need_of horizon o = need_going horizon o o.going

-- whether a number is in a list
abbrev pub is_in : Option ℕ → Bool
is_in None = false
is_in (Some p) = true

-- some number of one list is in another
abbrev pub any_in : List ℕ → List ℕ → Bool
any_in [] slots = false
any_in (q ∷ qs) slots = is_in (index_of q slots) || any_in qs slots

-- the places of writes
abbrev pub places_of : List (ℕ × ℕ) → List ℕ
places_of [] = []
places_of (w ∷ ws) = w.0 ∷ places_of ws

-- a leaf has a place that was written
abbrev pub touches : Net → List (ℕ × ℕ) → ℕ → Bool
touches net ws i = any_in (places_of ws) (slots_of net i)

-- a list of flags changed by number
abbrev pub flags_from : (ℕ → Bool → Bool) → ℕ → List Bool → List Bool
flags_from f i [] = []
flags_from f i (b ∷ bs) = f i b ∷ flags_from f (suc i) bs

-- the piece's leaf is settled, and the others that it touches are not
abbrev pub unsettled_after : Net → ℕ → List (ℕ × ℕ) → ℕ → Bool → Bool
unsettled_after net j ws i b = if nat_eq i j then false else (b || touches net ws i)

-- the piece's leaf is stale, and so are the others that it touches
abbrev pub stale_after : Net → ℕ → List (ℕ × ℕ) → ℕ → Bool → Bool
stale_after net j ws i b = if nat_eq i j then true else (b || touches net ws i)

-- a leaf goes on where its piece had more
abbrev pub going_after : ℕ → Bool → Option ℕ
going_after j true = Some j
going_after j false = None

-- after a block of a leaf: the leaf goes on where there is more, is settled and is stale, and other leaves of a written place are unsettled and stale
abbrev pub order_after : Net → Order → ℕ → ℕ → Outcome → Order
order_after net o time j b = record {
  going = going_after j b.more;
  unsettled = flags_from (unsettled_after net j b.writes) 0 o.unsettled;
  stale = flags_from (stale_after net j b.writes) 0 o.stale;
  dues = slice_set o.dues j (least_timer b.state.row);
  time = time;
}

-- after the renewal of a leaf it isn't stale
abbrev pub order_renewed : Order → ℕ → ℕ → Outcome → Order
order_renewed o time j b = record {
  going = o.going;
  unsettled = o.unsettled;
  stale = slice_set o.stale j false;
  dues = slice_set o.dues j (least_timer b.state.row);
  time = time;
}
