-- The laws: that taking the needed piece keeps the standing, and what follows.
use Rattle.san_base.specs.declared.limits.TheConstants.{MAX_EVENT_IMPULSES}
use Rattle.std.specs.Prelude.{ℕ, zero, suc, ◌+◌, ◌-◌, ◌*◌, ◌<◌, ◌≤◌, ◌≡◌, List, [], ◌∷◌, ◌++◌, length, map, Some, None, false, slice_get}
use Rattle.san_law.specs.Net.{Net, Rated, Row}
use Rattle.san_law.specs.State.{State, gather, opening_state, part_of, slots_of}
use Rattle.san_law.specs.Renewal.{AllFresh, Renewal, renewed_at, renewed_then}
use Rattle.san_law.specs.Step.{End, Ending, Event, Over, step}
use Rattle.san_law.specs.Trajectory.{Runs, Trajectory, followed_by, trajectory}
use Rattle.san_law.specs.Piece.{Kind, LeafState, Outcome, Refresh, kept, piece_of, leaf_view}
use Rattle.san_law.specs.Order.{Finished, Needs, flag, need_of}
use Rattle.san_law.specs.Reward.{worth}
use Rattle.san_law.specs.Tally.{tally_worth}
use Rattle.san_law.specs.Core.{Core, advance, after_pieces, leaf_of, rates_of, taken}
use Rattle.san_law.specs.Opening.{opening_core}
use Rattle.san_law.specs.Lawful.{IsLaid}
use Rattle.san_law.specs.Standing.{Each, Follows, ServesRenewal, Stands, upto}
use Rattle.san_law.specs.Pieces.{next_piece, outcome_of_core, pieces, resumed}

-- taking the needed piece keeps the standing, stops included
abbrev pub PieceKeeps : Net → Type 0
PieceKeeps net = (opening : State) (past : List Event) (c : Core) (s : State) → Stands net opening past c s → c.stop ≡ None → Follows net opening past (advance net c)

-- and so do however many
abbrev pub PiecesKeep : Net → Type 0
PiecesKeep net = (opening : State) (past : List Event) (c : Core) → Follows net opening past c → (n : ℕ) → Follows net opening past (after_pieces net n c)

-- from its opening on a core follows the run
abbrev pub OpensWell : Net → Type 0
OpensWell net = IsLaid net (length net.initial) → (n : ℕ) → Follows net (opening_state net) [] (after_pieces net n (opening_core net))

-- a core that needs no piece stands where the run ends at the horizon
abbrev pub FinishIsEnd : Net → Type 0
FinishIsEnd net = (opening : State) (past : List Event) (c : Core) (s : State) → Stands net opening past c s → need_of net.horizon c.order ≡ Finished → step net s ≡ (Over net.horizon End, s)

-- a stopped core has the events and the ending of the trajectory
abbrev pub StopIsTrajectory : Net → Type 0
StopIsTrajectory net = (opening : State) (past : List Event) (c : Core) (e : Ending) → c.stop ≡ Some e → Follows net opening past c → trajectory net opening ≡ Some (record { events = past ++ c.events; time = c.order.time; ending = e })

-- and so has one that needs no piece
abbrev pub FinishIsTrajectory : Net → Type 0
FinishIsTrajectory net = (opening : State) (past : List Event) (c : Core) → c.stop ≡ None → need_of net.horizon c.order ≡ Finished → Follows net opening past c → trajectory net opening ≡ Some (record { events = past ++ c.events; time = net.horizon; ending = End })

-- in one: the outcome of a core that has ended is the trajectory's
abbrev pub OutcomeIsTrajectory : Net → Type 0
OutcomeIsTrajectory net = (opening : State) (past : List Event) (c : Core) (time : ℕ) (e : Ending) → outcome_of_core net c ≡ Some (time, e) → Follows net opening past c → trajectory net opening ≡ Some (record { events = past ++ c.events; time = time; ending = e })

-- the events before a core's start and its own are the first of the trajectory
abbrev pub EventsArePrefix : Net → Type 0
EventsArePrefix net = (opening : State) (past : List Event) (c : Core) → Follows net opening past c → (rest : Trajectory) × (trajectory net opening ≡ Some (followed_by (past ++ c.events) rest))

-- a core that is started anew from another's committed part goes on to follow the run
abbrev pub ResumedFollows : Net → Type 0
ResumedFollows net = (opening : State) (past : List Event) (c : Core) → c.stop ≡ None → Follows net opening past c → Follows net opening (past ++ c.events) (resumed c)

-- every state has a trajectory
abbrev pub HasTrajectory : Net → Type 0
HasTrajectory net = (s : State) → (t : Trajectory) × (trajectory net s ≡ Some t)

-- no run has more events than the limit leaves
abbrev pub RunsWithin : Net → Type 0
RunsWithin net = (s t : State) (es : List Event) → Runs net s es t → (length es ≤ net.limit - s.count) × (t.count ≡ s.count + length es)

-- where a run begins in one, the rest of the trajectory is the trajectory of the state that it came to
abbrev pub RestIsTrajectory : Net → Type 0
RestIsTrajectory net = (s t : State) (es : List Event) (rest : Trajectory) → Runs net s es t → trajectory net t ≡ Some rest → trajectory net s ≡ Some (followed_by es rest)

-- a leaf's refresh that changes nothing
abbrev pub unchanged : LeafState → List Rated → Outcome
unchanged l w = record { completions = []; writes = []; state = l; rates = w; fault = None; more = false }

-- a leaf that isn't stale refreshes to itself, without a fault
abbrev pub FreshIsUnchanged : Net → Type 0
FreshIsUnchanged net = (opening : State) (past : List Event) (c : Core) (s : State) → Stands net opening past c s → Each net (λ i. flag c.order.stale i ≡ false → piece_of net i Refresh c.order.time (leaf_of c i) c.shared ≡ unchanged (leaf_of c i) (rates_of c i))

-- a core that needs no piece has each reward's worth over the trajectory
abbrev pub TallyIsWorth : Net → Type 0
TallyIsWorth net = (opening : State) (past : List Event) (c : Core) → c.stop ≡ None → need_of net.horizon c.order ≡ Finished → Follows net opening past c → (r : ℕ) → r < length net.spans → tally_worth net c.tally c.order.time r ≡ worth net r opening (past ++ c.events)

-- a core has counted at most 1,024 impulses for each event
abbrev pub TallyIsFew : Net → Type 0
TallyIsFew net = (opening : State) (past : List Event) (c : Core) → Follows net opening past c → c.tally.impulses + MAX_EVENT_IMPULSES * opening.count ≤ MAX_EVENT_IMPULSES * c.count

-- the pieces of a run are those that are needed after each number of them; after all, the core has ended
abbrev pub PiecesAreNeeded : Net → Type 0
PiecesAreNeeded net = (opening : State) (past : List Event) (c : Core) → Follows net opening past c → (m : ℕ) → next_piece net (after_pieces net m c) ≡ slice_get (pieces net c) m

-- the rows of a state with the leaves below a number renewed
abbrev pub renewed_below : Net → State → ℕ → ℕ → List Row → Renewal
renewed_below net s zero j rs = AllFresh rs
renewed_below net s (suc n) j [] = AllFresh []
renewed_below net s (suc n) j (r ∷ rs) = renewed_then j (renewed_at net s j r) (renewed_below net s n (suc j) rs)

-- a core has the timers and draws of its state, renewed up to the least stale leaf where all are settled
abbrev pub RowsAreRenewed : Net → Type 0
RowsAreRenewed net = (opening : State) (past : List Event) (c : Core) (s : State) → Stands net opening past c s → renewed_below net s (upto net c.order) 0 s.rows ≡ AllFresh (map (λ (l : LeafState). l.row) c.leaves)

-- a leaf has seen the marking where it is renewed, and else the last stable one, or nothing where it has no timer
abbrev pub SeenIsKept : Net → Type 0
SeenIsKept net = (opening : State) (past : List Event) (c : Core) (s : State) → Stands net opening past c s → Each net (λ i.
    (i < upto net c.order → (leaf_of c i).seen ≡ kept net i (gather (slots_of net i) s.marking))
    × (upto net c.order ≤ i → ServesRenewal net i (leaf_of c i).seen (gather (slots_of net i) s.stable) (leaf_of c i).row))

-- a piece that was made over shared values by which its leaf sees the same is the same piece
abbrev pub SameView : Net → Type 0
SameView net = (j : ℕ) (kind : Kind) (time : ℕ) (base : LeafState) (a b : List ℕ) → leaf_view (part_of net j) base.values a ≡ leaf_view (part_of net j) base.values b → piece_of net j kind time base a ≡ piece_of net j kind time base b

-- taking a piece that was made ahead, from the leaf's committed state and such shared values, is taking the needed piece
abbrev pub AheadIsNeeded : Net → Type 0
AheadIsNeeded net = (c : Core) (j : ℕ) (kind : Kind) (time : ℕ) (shared : List ℕ) → need_of net.horizon c.order ≡ Needs j kind time → leaf_view (part_of net j) (leaf_of c j).values shared ≡ leaf_view (part_of net j) (leaf_of c j).values c.shared → taken net c j kind time (piece_of net j kind time (leaf_of c j) shared) ≡ advance net c
