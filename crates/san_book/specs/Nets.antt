-- The law's own committed part under a book, with pieces that log all shared places of their leaf.
use Rattle.std.specs.Prelude.{ℕ, zero, suc, ◌≡◌, nat_eq, ◌&&◌, not, List, [], ◌∷◌, length, Option, Some, None, Bool, true, false, slice_index}
use Rattle.san_base.specs.declared.limits.Limits.{Limits}
use Rattle.san_base.specs.declared.piece.Kind as named
use Rattle.san_log.specs.Logs.{Entry, find}
use Rattle.san_law.specs.Net.{Net, Private, Row, Shared, Slot, Timer, least_timer}
use Rattle.san_law.specs.State.{opening_state, part_of}
use Rattle.san_law.specs.Step.{Event}
use Rattle.san_law.specs.Piece.{Kind, LeafState, Outcome, piece_of}
use Rattle.san_law.specs.Core as law
use Rattle.san_law.specs.Lawful.{IsLaid}
use Rattle.san_law.specs.Standing.{Follows}
use Rattle.san_law.specs.Starts.{IsStart}
use Rattle.san_book.specs.Machines.{Machine, PieceReading}
use Rattle.san_book.specs.Cores.{Core, Step, opened}
use Rattle.san_book.specs.Plans.{when}
use Rattle.san_book.specs.Journals.{replayed}
use Rattle.san_book.specs.Whole.{HasValues, IsLawfulMachine}

-- a piece that was made ahead: its kind and time, the leaf's state before it, what it read, and what it made
pub record Ahead : Type 0 where
  pub kind : Kind
  pub time : ℕ
  pub base : LeafState
  pub log : List Entry
  pub outcome : Outcome

-- something is there
abbrev pub is_there : {X : Type 0} → Option X → Bool
is_there None = false
is_there (Some x) = true

-- how it is read
abbrev pub of_outcome : PieceReading LeafState Ahead
of_outcome = record {
  kind = λ p. p.kind;
  time = λ p. p.time;
  base = λ p. p.base;
  end = λ p. p.outcome.state;
  log = λ p. p.log;
  writes = λ p. p.outcome.writes;
  more = λ p. p.outcome.more;
  trapped = λ p. is_there p.outcome.fault;
}

-- the shared places among a leaf's slots
abbrev pub shared_in : List Slot → List ℕ
shared_in [] = []
shared_in (Private p ∷ ss) = shared_in ss
shared_in (Shared q ∷ ss) = q ∷ shared_in ss

-- places with their values
abbrev pub logged : List ℕ → List ℕ → List Entry
logged [] shared = []
logged (q ∷ qs) shared = (record { 0 = q }, slice_index shared q) ∷ logged qs shared

-- a log has just these places
abbrev pub is_logged : List ℕ → List Entry → Bool
is_logged [] [] = true
is_logged [] (e ∷ es) = false
is_logged (q ∷ qs) [] = false
is_logged (q ∷ qs) (e ∷ es) = nat_eq e.0.0 q && is_logged qs es

-- a number, or 0
abbrev pub or_zero : Option ℕ → ℕ
or_zero None = 0
or_zero (Some v) = v

-- values of so many places from one on: those of a log, else 0
abbrev pub values_from : ℕ → ℕ → List Entry → List ℕ
values_from q zero es = []
values_from q (suc n) es = or_zero (find q es) ∷ values_from (suc q) n es

-- two lists are the same, item by item
abbrev pub same_list : {X : Type 0} → (X → X → Bool) → List X → List X → Bool
same_list same [] [] = true
same_list same [] (y ∷ ys) = false
same_list same (x ∷ xs) [] = false
same_list same (x ∷ xs) (y ∷ ys) = same x y && same_list same xs ys

-- two truth values are
abbrev pub same_bool : Bool → Bool → Bool
same_bool true b = b
same_bool false b = not b

-- two timers are, or none is there
abbrev pub same_timer : Option Timer → Option Timer → Bool
same_timer None None = true
same_timer None (Some b) = false
same_timer (Some a) None = false
same_timer (Some a) (Some b) = nat_eq a.due b.due && same_bool a.held b.held

-- two rows are
abbrev pub same_row : Row → Row → Bool
same_row a b = same_list same_timer a.timers b.timers && (same_list nat_eq a.delays b.delays && same_list nat_eq a.cases b.cases)

-- two states are
abbrev pub same_state : LeafState → LeafState → Bool
same_state a b = same_list nat_eq a.values b.values && (same_row a.row b.row && same_list nat_eq a.seen b.seen)

-- the piece of a leaf over the values of a log
abbrev pub ahead : Net → ℕ → LeafState → Kind → ℕ → List Entry → Ahead
ahead net j base kind time log = record { kind = kind; time = time; base = base; log = log; outcome = piece_of net j kind time base (values_from 0 net.shared log) }

-- a leaf's shared places
abbrev pub places_in : Net → ℕ → List ℕ
places_in net j = shared_in (part_of net j)

-- the committed part of a network, where these are the kinds by the leaves' own numbers
abbrev pub machine_of : Net → (ℕ → named.Kind → Option Kind) → Machine law.Core LeafState Ahead
machine_of net kinds = record {
  reading = of_outcome;
  width = net.shared;
  places = places_in net;
  leaves = λ c. length c.leaves;
  state = law.leaf_of;
  shared = λ c. c.shared;
  order = λ c. c.order;
  stopped = λ c. is_there c.stop;
  events = λ c. c.events;
  kind_in = kinds;
  due = λ s. least_timer s.row;
  same = same_state;
  makes = λ j base kind time log. when (is_logged (places_in net j) log) (Some (ahead net j base kind time log));
  needed = λ c j kind time. ahead net j (law.leaf_of c j) kind time (logged (places_in net j) c.shared);
  takes = λ c j p. law.taken net c j p.kind p.time p.outcome;
}

-- it is as the book asks, where the network's places are laid out apart
abbrev pub NetIsLawful : Net → (ℕ → named.Kind → Option Kind) → Type 0
NetIsLawful net kinds = (places : ℕ) → IsLaid net places → IsLawfulMachine (machine_of net kinds)

-- whatever is done to a core that was opened over a start, what it has committed follows the run
abbrev pub EveryRunFollows : Net → (ℕ → named.Kind → Option Kind) → Type 0
EveryRunFollows net kinds = (places : ℕ) → IsLaid net places → (limits : Limits) → limits.horizon.0 ≡ net.horizon → (start : law.Core) → IsStart net start → HasValues (machine_of net kinds) start →
    (workers : ℕ) (ss : List Step) (c : Core law.Core Ahead) → replayed (machine_of net kinds) limits ss (opened (machine_of net kinds) workers start) ≡ Some c →
    (past : List Event) × Follows net (opening_state net) past c.held
