-- What the bookkeeping knows of a committed part, of leaves and of pieces.
use Rattle.std.specs.Prelude.{ℕ, zero, suc, nat_eq, ◌&&◌, List, Option, Bool, true, false, if◌then◌else◌}
use Rattle.san_base.specs.declared.piece.Kind as named
use Rattle.san_log.specs.Logs.{Entry}
use Rattle.san_law.specs.Step.{Event}
use Rattle.san_law.specs.Piece.{Fire, Kind, Refresh, Settle}
use Rattle.san_law.specs.Order.{Finished, Need, Needs, Order, need_of}

-- how a piece is read: its kind, its time, the states of its leaf before and after it, what it read of which shared places, what it writes, whether its leaf had more to do, and whether it came to a trap
pub record PieceReading (S P : Type 0) : Type 0 where
  pub kind : P → Kind
  pub time : P → ℕ
  pub base : P → S
  pub end : P → S
  pub log : P → List Entry
  pub writes : P → List (ℕ × ℕ)
  pub more : P → Bool
  pub trapped : P → Bool

-- a committed part of type H, over leaf states of type S and pieces of type P
pub record Machine (H S P : Type 0) : Type 0 where
  pub reading : PieceReading S P
  -- how many shared places there are, and those of each leaf
  pub width : ℕ
  pub places : ℕ → List ℕ
  -- the committed part: how many leaves, each leaf's state, the values of the shared places, the order, whether it came to a stop, and its events
  pub leaves : H → ℕ
  pub state : H → ℕ → S
  pub shared : H → List ℕ
  pub order : H → Order
  pub stopped : H → Bool
  pub events : H → List Event
  -- a kind by the network's numbers, in the leaf's own ones, where it names a timed activity of the leaf or none
  pub kind_in : ℕ → named.Kind → Option Kind
  -- the least timer of a state, (due, activity)
  pub due : S → Option (ℕ × ℕ)
  -- whether two states are the same
  pub same : S → S → Bool
  -- the piece of a leaf from a state, of a kind, at a time, from a log, where the log has just the places that it reads
  pub makes : ℕ → S → Kind → ℕ → List Entry → Option P
  -- the piece of a leaf, of a kind, at a time, from the committed state and values
  pub needed : H → ℕ → Kind → ℕ → P
  -- what is committed once a leaf's piece is taken
  pub takes : H → ℕ → P → H

-- whether two kinds are the same
abbrev pub is_kind : Kind → Kind → Bool
is_kind (Fire i) (Fire k) = nat_eq i k
is_kind (Fire i) Settle = false
is_kind (Fire i) Refresh = false
is_kind Settle (Fire k) = false
is_kind Settle Settle = true
is_kind Settle Refresh = false
is_kind Refresh (Fire k) = false
is_kind Refresh Settle = false
is_kind Refresh Refresh = true

-- a renewal sees what others write at its time
abbrev pub sees_all : Kind → Bool
sees_all (Fire k) = false
sees_all Settle = false
sees_all Refresh = true

-- a piece is of this kind and time
abbrev pub is_of : {S P : Type 0} → PieceReading S P → Kind → ℕ → P → Bool
is_of r kind time p = is_kind (r.kind p) kind && nat_eq (r.time p) time

-- the needed piece is taken, where one is needed
abbrev pub take_need : {H S P : Type 0} → Machine H S P → H → Need → H
take_need m h (Needs j kind time) = m.takes h j (m.needed h j kind time)
take_need m h Finished = h

-- a stopped part stays
abbrev pub advance : {H S P : Type 0} → Machine H S P → ℕ → H → H
advance m horizon h = if m.stopped h then h else take_need m h (need_of horizon (m.order h))

-- what is committed after so many needed pieces
abbrev pub after_pieces : {H S P : Type 0} → Machine H S P → ℕ → ℕ → H → H
after_pieces m horizon zero h = h
after_pieces m horizon (suc n) h = advance m horizon (after_pieces m horizon n h)
