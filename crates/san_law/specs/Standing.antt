-- How a core's committed part stands for a state of the run.
use Rattle.san_base.specs.declared.limits.TheConstants.{MAX_EVENT_IMPULSES}
use Rattle.std.specs.Prelude.{ℕ, ◌<◌, ◌≤◌, ◌*◌, ◌≡◌, ◌⊎◌, ◌≢◌, List, [], ◌∷◌, ◌++◌, length, take, Option, Some, None, true, false, slice_index_or}
use Rattle.san_law.specs.Net.{Fresh, Net, Nothing, Rated, Row, is_bare, least_timer}
use Rattle.san_law.specs.State.{State, gather, part_of, row_of, slots_of}
use Rattle.san_law.specs.Next.{next_of}
use Rattle.san_law.specs.Renewal.{renewed_at}
use Rattle.san_law.specs.Step.{Ending, Event, Over, step}
use Rattle.san_law.specs.Trajectory.{Runs}
use Rattle.san_law.specs.Piece.{LeafState, kept, privates}
use Rattle.san_law.specs.Order.{Order, first_true, flag}
use Rattle.san_law.specs.Reward.{sum_before}
use Rattle.san_law.specs.Tally.{Tally, sum_of}
use Rattle.san_law.specs.Core.{Core, leaf_of, rates_of}
use Rattle.san_law.specs.Lawful.{IsLaid, IsLate}

-- what was seen is what a leaf keeps of its last stable values, or nothing where none of its activities has a timer
abbrev pub ServesRenewal : Net → ℕ → List ℕ → List ℕ → Row → Type 0
ServesRenewal net j seen stable row = (seen ≡ kept net j stable) ⊎ ((seen ≡ []) × (is_bare row ≡ true))

-- renewal leaves the row as it is, at any time, the values being those last seen
abbrev pub Quiet : Net → ℕ → List ℕ → Row → Type 0
Quiet net j values row = (t : ℕ) → net.renewed j t values (record { values = values; row = row }) ≡ Fresh row

-- a leaf whose renewal has not come yet
pub record Waits (net : Net) (s : State) (j : ℕ) (l : LeafState) : Type 0 where
  pub row : l.row ≡ row_of s j
  pub seen : ServesRenewal net j l.seen (gather (slots_of net j) s.stable) l.row

-- a leaf that needs no renewal
pub record IsFresh (net : Net) (s : State) (j : ℕ) (l : LeafState) (w : List Rated) : Type 0 where
  pub quiet : Quiet net j (gather (slots_of net j) s.marking) l.row
  pub seen : l.seen ≡ kept net j (gather (slots_of net j) s.marking)
  pub rates : w ≡ net.rates j (gather (slots_of net j) s.marking)

-- a leaf has no instantaneous activity that is enabled or traps
abbrev pub nothing_in : Net → State → ℕ → Type 0
nothing_in net s j = next_of net s j ≡ Nothing

-- for each leaf
abbrev pub Each : Net → (ℕ → Type 0) → Type 0
Each net P = (i : ℕ) → i < length net.parts → P i

-- lists of the sizes that the network gives them
pub record Sized (net : Net) (c : Core) (s : State) : Type 0 where
  pub leaves : length c.leaves ≡ length net.parts
  pub rows : length s.rows ≡ length net.parts
  pub unsettled : length c.order.unsettled ≡ length net.parts
  pub stale : length c.order.stale ≡ length net.parts
  pub timers : length c.order.dues ≡ length net.parts
  pub rates : length c.tally.rates ≡ length net.parts
  pub laid : IsLaid net (length s.marking)

-- what a core holds of a state, apart from its rows
pub record Holds (net : Net) (c : Core) (s : State) : Type 0 where
  pub sized : Sized net c s
  pub time : c.order.time ≡ s.time
  pub burst : c.burst ≡ s.burst
  pub count : c.count ≡ s.count
  pub shared : c.shared ≡ take net.shared s.marking
  pub values : Each net (λ i. (leaf_of c i).values ≡ gather (privates (part_of net i)) s.marking)
  pub fresh : Each net (λ i. flag c.order.stale i ≡ false → IsFresh net s i (leaf_of c i) (rates_of c i))
  pub first : Each net (λ i. flag c.order.unsettled i ≡ false → c.order.going ≢ Some i → nothing_in net s i)
  pub going : (j : ℕ) → c.order.going ≡ Some j → (j < length net.parts) × (s.last ≡ Some j)
  pub last : c.order.going ≡ None → (j : ℕ) → s.last ≡ Some j → nothing_in net s j
  pub dues : Each net (λ i. slice_index_or c.order.dues i None ≡ least_timer (leaf_of c i).row)
  pub late : Each net (λ i. IsLate s.time (leaf_of c i).row)

-- the rows of a core are those of the state after the renewal of the leaves below a number
pub record Upto (net : Net) (c : Core) (s : State) (n : ℕ) : Type 0 where
  pub renewed : Each net (λ i. i < n → renewed_at net s i (row_of s i) ≡ Fresh (leaf_of c i).row)
  pub waits : Each net (λ i. n ≤ i → Waits net s i (leaf_of c i))

-- how far the renewal has come: nowhere while a leaf is going or unsettled, else to the least stale leaf
abbrev pub upto_stale : Net → Option ℕ → ℕ
upto_stale net None = length net.parts
upto_stale net (Some j) = j

-- no leaf is renewed while one is unsettled
abbrev pub upto_unsettled : Net → Order → Option ℕ → ℕ
upto_unsettled net o (Some j) = 0
upto_unsettled net o None = upto_stale net (first_true 0 o.stale)

-- nor while one is going
abbrev pub upto_going : Net → Order → Option ℕ → ℕ
upto_going net o (Some j) = 0
upto_going net o None = upto_unsettled net o (first_true 0 o.unsettled)

-- the number of leaves that are renewed
abbrev pub upto : Net → Order → ℕ
upto net o = upto_going net o o.going

-- no event is later than a time
abbrev pub AllTo : ℕ → List Event → Type 0
AllTo time [] = Unit {0}
AllTo time (e ∷ es) = (e.time ≤ time) × AllTo time es

-- a tally has counted the ticks before a time and the impulses of these events, and at most 1,024 of them for each; no event is later, nor is the time past the horizon
pub record Counts (net : Net) (opening : State) (es : List Event) (time : ℕ) (tally : Tally) : Type 0 where
  pub long : length tally.sums ≡ length net.spans
  pub sums : (r : ℕ) → r < length net.spans → sum_of tally r ≡ sum_before net r opening es time
  pub impulses : tally.impulses ≤ MAX_EVENT_IMPULSES * length es
  pub early : AllTo time es
  pub timely : time ≤ net.horizon

-- a core without a stop stands for a state: the run comes to it by the events before the start and the core's own, and the core holds it
pub record Stands (net : Net) (opening : State) (past : List Event) (c : Core) (s : State) : Type 0 where
  pub runs : Runs net opening (past ++ c.events) s
  pub holds : Holds net c s
  pub upto : Upto net c s (upto net c.order)
  pub counts : Counts net opening (past ++ c.events) c.order.time c.tally

-- a stopped core has the run's events, and the run's next step is its stop
pub record Stops (net : Net) (opening : State) (past : List Event) (c : Core) (e : Ending) (s : State) : Type 0 where
  pub runs : Runs net opening (past ++ c.events) s
  pub over : (step net s).0 ≡ Over c.order.time e
  pub count : c.count ≡ s.count
  pub counts : Counts net opening (past ++ c.events) c.order.time c.tally

-- by the stop
abbrev pub follows_by : Net → State → List Event → Core → Option Ending → Type 0
follows_by net opening past c None = (s : State) × Stands net opening past c s
follows_by net opening past c (Some e) = (s : State) × Stops net opening past c e s

-- a core follows the run from an opening, with so many events before its start
abbrev pub Follows : Net → State → List Event → Core → Type 0
Follows net opening past c = follows_by net opening past c c.stop
