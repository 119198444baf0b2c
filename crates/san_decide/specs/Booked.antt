-- The committed part of a run under the book, with pieces that log just what they read.
use Rattle.std.specs.Prelude.{ℕ, ◌+◌, ◌-◌, ◌≡◌, nat_eq, nat_le, ◌&&◌, Bool, true, false, List, [], length, map, Option, Some, None, slice_get, slice_index_or}
use Rattle.san_base.specs.declared.limits.Limits.{Limits}
use Rattle.san_base.specs.declared.piece.Kind as named
use Rattle.san_base.specs.declared.piece.Kind.TheVariants as kind
use Rattle.san_log.specs.Logs.{Entry}
use Rattle.san_law.specs.Core.{Core, leaf_of, taken}
use Rattle.san_law.specs.Net.{least_timer}
use Rattle.san_law.specs.Piece as law
use Rattle.san_law.specs.Piece.{LeafState, piece_of}
use Rattle.san_law.specs.Standing.{Follows}
use Rattle.san_law.specs.Starts.{IsStart}
use Rattle.san_law.specs.State.{opening_state}
use Rattle.san_law.specs.Step.{Event}
use Rattle.san_leaf.specs.Pieces.{PieceValue, reads_in}
use Rattle.san_leaf.specs.States.{kind_in, pair_in}
use Rattle.san_net.specs.Instants.{Named}
use Rattle.san_net.specs.Network.{Network}
use Rattle.san_net.specs.Runs.{net_at}
use Rattle.san_net.specs.declared.activity.ActKind.{ActKind}
use Rattle.san_net.specs.declared.activity.ActKind.TheVariants as act
use Rattle.san_net.specs.declared.part.Part.{Part}
use Rattle.san_book.specs.Cores as book
use Rattle.san_book.specs.Cores.{Step, opened}
use Rattle.san_book.specs.Journals.{replayed}
use Rattle.san_book.specs.Machines.{Machine, PieceReading}
use Rattle.san_book.specs.Nets.{is_there, places_in, same_list, same_state, values_from}
use Rattle.san_book.specs.Plans.{when}
use Rattle.san_book.specs.Whole.{HasValues, IsLawfulMachine}

-- the part of a leaf that isn't there
abbrev pub no_part : Part
no_part = record {
  leaf = record { 0 = 0 };
  first = record { 0 = 0 };
  atomic = record { name = []; initial = []; acts = []; instants = []; rates = []; impulses = [] };
  slots = [];
}

abbrev pub part_at : Network → ℕ → Part
part_at n j = slice_index_or n.parts j no_part

-- a kind of the law by the network's numbers
abbrev pub named_in : ℕ → law.Kind → named.Kind
named_in first (law.Fire k) = kind.Fire (record { 0 = first + k })
named_in first law.Settle = kind.Settle
named_in first law.Refresh = kind.Refresh

abbrev pub is_timed : ActKind → Bool
is_timed (act.Timed delay pair) = true
is_timed (act.Instant priority) = false

abbrev pub is_timed_act : Option Named → Bool
is_timed_act None = false
is_timed_act (Some a) = is_timed a.1.kind

-- a kind by the part's own numbers, where it names a timed activity of the part or none
abbrev pub own_kind : Part → named.Kind → Option law.Kind
own_kind p (kind.Fire a) = when (nat_le p.first.0 a.0 && is_timed_act (slice_get p.atomic.acts (a.0 - p.first.0))) (Some (law.Fire (a.0 - p.first.0)))
own_kind p kind.Settle = Some law.Settle
own_kind p kind.Refresh = Some law.Refresh

-- a place and its value, as a log has them
abbrev pub entry_of : ℕ × ℕ → Entry
entry_of x = (record { 0 = x.0 }, x.1)

-- how a piece is read
abbrev pub of_piece : PieceReading LeafState PieceValue
of_piece = record {
  kind = λ p. kind_in p.part.first.0 p.kind;
  time = λ p. p.time;
  base = λ p. p.base;
  end = λ p. p.outcome.state;
  log = λ p. map entry_of p.log;
  writes = λ p. p.outcome.writes;
  more = λ p. p.outcome.more;
  trapped = λ p. is_there p.outcome.fault;
}

-- two places have the same number and value
abbrev pub same_read : ℕ × ℕ → ℕ × ℕ → Bool
same_read a b = nat_eq a.0 b.0 && nat_eq a.1 b.1

-- a leaf's piece over shared values, with a log
abbrev pub piece_from : Network → ℕ → Limits → ℕ → LeafState → law.Kind → ℕ → List ℕ → List (ℕ × ℕ) → PieceValue
piece_from n seed limits j base kind time shared log = record {
  part = part_at n j;
  seed = seed;
  kind = named_in (part_at n j).first.0 kind;
  base = base;
  time = time;
  log = log;
  outcome = piece_of (net_at n seed limits) j kind time base shared;
}

-- over the values of a log, where the log has just what the piece reads
abbrev pub made_from : Network → ℕ → Limits → ℕ → LeafState → law.Kind → ℕ → List Entry → Option PieceValue
made_from n seed limits j base kind time log =
    when (same_list same_read (reads_in (part_at n j) seed kind base (values_from 0 n.shared log)) (map pair_in log))
    (Some (piece_from n seed limits j base kind time (values_from 0 n.shared log) (map pair_in log)))

-- over the committed values
abbrev pub needed_from : Network → ℕ → Limits → ℕ → LeafState → law.Kind → ℕ → List ℕ → PieceValue
needed_from n seed limits j base kind time shared = piece_from n seed limits j base kind time shared (reads_in (part_at n j) seed kind base shared)

-- the committed part of a run with a seed and limits
abbrev pub book_of : Network → ℕ → Limits → Machine Core LeafState PieceValue
book_of n seed limits = record {
  reading = of_piece;
  width = n.shared;
  places = places_in (net_at n seed limits);
  leaves = λ c. length c.leaves;
  state = leaf_of;
  shared = λ c. c.shared;
  order = λ c. c.order;
  stopped = λ c. is_there c.stop;
  events = λ c. c.events;
  kind_in = λ j kind. own_kind (part_at n j) kind;
  due = λ s. least_timer s.row;
  same = same_state;
  makes = made_from n seed limits;
  needed = λ c j kind time. needed_from n seed limits j (leaf_of c j) kind time c.shared;
  takes = λ c j p. taken (net_at n seed limits) c j (kind_in p.part.first.0 p.kind) p.time p.outcome;
}

-- it is as the book asks
abbrev pub BookIsLawful : Network → Type 0
BookIsLawful n = (seed : ℕ) (limits : Limits) → IsLawfulMachine (book_of n seed limits)

-- whatever is done to a core that was opened over a start of the run, what it has committed follows the run
abbrev pub EveryCoreFollows : Network → Type 0
EveryCoreFollows n = (seed : ℕ) (limits : Limits) (start : Core) → IsStart (net_at n seed limits) start → HasValues (book_of n seed limits) start →
    (workers : ℕ) (ss : List Step) (c : book.Core Core PieceValue) → replayed (book_of n seed limits) limits ss (opened (book_of n seed limits) workers start) ≡ Some c →
    (past : List Event) × Follows (net_at n seed limits) (opening_state (net_at n seed limits)) past c.held
