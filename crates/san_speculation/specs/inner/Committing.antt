-- What is committed next, as the code finds it.
use Rattle.std.specs.Prelude.{ℕ, ◌+◌, ◌≡◌, ◌≤◌, ◌<◌, nat_le, nat_lt, not, ◌&&◌, ◌||◌, Bool, true, ◌∷◌, length, Option, Some, None, slice_get}
use Rattle.san_base.specs.declared.numbers.LeafId.{LeafId}
use Rattle.san_book.specs.Chains.{Chain, chain_of}
use Rattle.san_book.specs.Cores as book
use Rattle.san_book.specs.Lines.{agrees}
use Rattle.san_book.specs.Machines.{is_of}
use Rattle.san_book.specs.Nets.{same_state}
use Rattle.san_book.specs.Steps.{all_committed, committed, goes_on, redone}
use Rattle.san_book.specs.Whole.{IsWhole}
use Rattle.san_book.specs.declared.limits.TheConstants.{MAX_STRETCH_EVENTS, MAX_STRETCH_PIECES}
use Rattle.san_ahead.specs.Ahead.{AheadValue}
use Rattle.san_decide.specs.Booked.{of_piece}
use Rattle.san_law.specs.Core as law
use Rattle.san_law.specs.Order.{Needs, need_of}
use Rattle.san_law.specs.Piece.{Kind, LeafState}
use Rattle.san_leaf.specs.Pieces.{PieceValue}
use Rattle.san_law.specs.Left.{left}
use Rattle.san_core.specs.Machines.{MachineValue, core_in, net_in}
use Rattle.san_core.specs.Redone.{IsSameRun}
use Rattle.san_core.specs.declared.admission.Taking.{Taking}
use Rattle.san_leaf.specs.States.{kind_in}
use Rattle.san_speculation.specs.Speculating.{book_in}

-- a core with this machine and this work ahead
abbrev pub with_parts : MachineValue → AheadValue → book.Core law.Core PieceValue → book.Core law.Core PieceValue
with_parts m a c = record { held = core_in m; chains = a.chains; counters = a.counters; lines = a.lines; claims = c.claims; journal = c.journal; rollbacks = c.rollbacks; taken = m.taken }

-- as much as a stretch may is taken
abbrev pub is_full : MachineValue → Bool
is_full m = nat_le MAX_STRETCH_EVENTS (length (core_in m).events) || nat_le MAX_STRETCH_PIECES m.taken

-- the head of a chain is the needed piece, and read what is committed
abbrev pub is_needed_head : MachineValue → Taking → PieceValue → Bool
is_needed_head m t p = is_of of_piece (kind_in t.first.0 t.kind) t.time.0 p && agrees (slice_get (core_in m).shared) (of_piece.log p)

-- nothing can be committed
abbrev pub NoneNext : MachineValue → AheadValue → Type 0
NoneNext m a = (c : book.Core law.Core PieceValue) → committed (book_in m) m.limits (with_parts m a c) ≡ None

-- the head of this leaf's chain can
pub record IsNext (m : MachineValue) (a : AheadValue) (leaf : LeafId) : Type 0 where
  pub kind : Kind
  pub time : ℕ
  pub head : ℕ × PieceValue
  pub rest : Chain PieceValue
  pub within : leaf.0 < length a.chains
  pub goes : (c : book.Core law.Core PieceValue) → goes_on (book_in m) m.limits (with_parts m a c) ≡ true
  pub need : need_of m.limits.horizon.0 (core_in m).order ≡ Needs leaf.0 kind time
  pub chain : chain_of a.chains leaf.0 ≡ head ∷ rest
  pub kinded : is_of of_piece kind time head.1 ≡ true
  pub agree : agrees (slice_get (core_in m).shared) (of_piece.log head.1) ≡ true

abbrev pub NextBy : MachineValue → AheadValue → Option LeafId → Type 0
NextBy m a None = NoneNext m a
NextBy m a (Some leaf) = IsNext m a leaf

-- some core with these parts is whole
abbrev pub ArePartsWhole : MachineValue → AheadValue → Type 0
ArePartsWhole m a = (c : book.Core law.Core PieceValue) × IsWhole (book_in m) (with_parts m a c)

-- the head of a chain was committed: the same run, with less to take, and still whole
pub record TakesHead (m : MachineValue) (a : AheadValue) (n : MachineValue) (b : AheadValue) : Type 0 where
  pub committed : (c : book.Core law.Core PieceValue) → committed (book_in m) m.limits (with_parts m a c) ≡ Some (with_parts n b c)
  pub run : IsSameRun m n
  pub whole : ArePartsWhole n b
  pub spare : n.spare + 1 ≡ m.spare
  pub less : left (net_in n) (core_in n) < left (net_in m) (core_in m)
  pub chains : length b.chains ≡ length a.chains

-- so many were, one after another
pub record TakesHeads (m : MachineValue) (a : AheadValue) (k : ℕ) (n : MachineValue) (b : AheadValue) : Type 0 where
  pub committed : (c : book.Core law.Core PieceValue) → all_committed (book_in m) m.limits k (with_parts m a c) ≡ Some (with_parts n b c)
  pub run : IsSameRun m n
  pub whole : ArePartsWhole n b
  pub spare : n.spare + k ≡ m.spare
  pub less : left (net_in n) (core_in n) + k ≤ left (net_in m) (core_in m)
  pub chains : length b.chains ≡ length a.chains

-- so many rollbacks more
abbrev pub thrown : ℕ → book.Core law.Core PieceValue → book.Core law.Core PieceValue
thrown k c = record { held = c.held; chains = c.chains; counters = c.counters; lines = c.lines; claims = c.claims; journal = c.journal; rollbacks = c.rollbacks + k; taken = c.taken }

-- what the book makes of a redo
abbrev pub redone_with : MachineValue → AheadValue → Taking → book.Core law.Core PieceValue → book.Core law.Core PieceValue
redone_with m a t c = redone (book_in m) (with_parts m a c) t.leaf.0 (kind_in t.first.0 t.kind) t.time.0 ((book_in m).needed (core_in m) t.leaf.0 (kind_in t.first.0 t.kind) t.time.0)

-- the needed piece was made anew, with so many rollbacks
abbrev pub IsRedone : MachineValue → AheadValue → Taking → MachineValue → AheadValue → ℕ → Type 0
IsRedone m a t n b k = (c : book.Core law.Core PieceValue) → redone_with m a t c ≡ thrown k (with_parts n b c)

-- a chain's head goes where it is of this kind and time, of an earlier time, or doesn't begin with this state
abbrev pub head_falls : PieceValue → Taking → LeafState → Bool
head_falls p t s = is_of of_piece (kind_in t.first.0 t.kind) t.time.0 p || (nat_lt p.time t.time.0 || not (same_state p.base s))
