-- The state of a run: one marking of all places, and a row for each leaf.
use Rattle.std.specs.Prelude.{ℕ, zero, suc, nat_eq, Bool, true, false, List, [], ◌∷◌, map, Option, Some, None, slice_index, slice_index_or}
use Rattle.san_law.specs.Net.{Local, Net, Private, Row, Shared, Slot, no_row}

-- the time, the marking and the one at the last stable point, the leaves' rows, the burst, the leaf that completed last, and the count of events
pub record State : Type 0 where
  pub time : ℕ
  pub marking : List ℕ
  pub stable : List ℕ
  pub rows : List Row
  pub burst : ℕ
  pub last : Option ℕ
  pub count : ℕ

-- where a number stands in a list
abbrev pub or_next : Bool → Option ℕ → Option ℕ
or_next true o = Some 0
or_next false None = None
or_next false (Some n) = Some (suc n)

-- its first place there
abbrev pub index_of : ℕ → List ℕ → Option ℕ
index_of q [] = None
index_of q (s ∷ ss) = or_next (nat_eq q s) (index_of q ss)

-- a leaf's values in a marking
abbrev pub gather : List ℕ → List ℕ → List ℕ
gather slots m = map (λ s. slice_index m s) slots

-- a leaf's own value where the place is its own
abbrev pub taken_from : List ℕ → Option ℕ → ℕ → ℕ
taken_from values None v = v
taken_from values (Some p) v = slice_index values p

-- place by place, from a number on
abbrev pub scatter_from : List ℕ → List ℕ → ℕ → List ℕ → List ℕ
scatter_from slots values q [] = []
scatter_from slots values q (v ∷ vs) = taken_from values (index_of q slots) v ∷ scatter_from slots values (suc q) vs

-- a marking with a leaf's values in its places
unfoldable pub scatter : List ℕ → List ℕ → List ℕ → List ℕ
scatter slots values m = scatter_from slots values 0 m

-- the place of a slot
abbrev pub place_of : Slot → ℕ
place_of (Private p) = p
place_of (Shared q) = q

-- a leaf's slots
abbrev pub part_of : Net → ℕ → List Slot
part_of net j = slice_index_or net.parts j []

-- a leaf's places
abbrev pub slots_of : Net → ℕ → List ℕ
slots_of net j = map place_of (part_of net j)

-- a leaf's row
abbrev pub row_of : State → ℕ → Row
row_of s j = slice_index_or s.rows j no_row

-- a leaf's values and row
abbrev pub local_of : Net → State → ℕ → Local
local_of net s j = record { values = gather (slots_of net j) s.marking; row = row_of s j }

-- a row with no timer and no draw taken
abbrev pub repeated : {A : Type 0} → ℕ → A → List A
repeated zero a = []
repeated (suc n) a = a ∷ repeated n a

-- the row of so many activities before the first step
abbrev pub blank_row : ℕ → Row
blank_row n = record { timers = repeated n None; delays = repeated n 0; cases = repeated n 0 }

-- the rows of all leaves, from a number on
abbrev pub blank_rows : Net → ℕ → List (List Slot) → List Row
blank_rows net j [] = []
blank_rows net j (p ∷ ps) = blank_row (net.acts j) ∷ blank_rows net (suc j) ps

-- the state before the first step: time 0, the initial marking twice, no timer, no last leaf, and else zeros
abbrev pub opening_state : Net → State
opening_state net = record { time = 0; marking = net.initial; stable = net.initial; rows = blank_rows net 0 net.parts; burst = 0; last = None; count = 0 }
