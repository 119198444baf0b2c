-- A plan in code as the book has it, and the plan of a leaf over a machine and what is made ahead of it.
use Rattle.std.specs.Prelude.{ℕ, ◌≡◌, ◌≤◌, ◌<◌, length, Option, Some, None}
use Rattle.san_base.specs.declared.limits.TheConstants.{MAX_HORIZON}
use Rattle.san_ahead.specs.Ahead.{AheadValue, last_of}
use Rattle.san_book.specs.Chains.{chain_of}
use Rattle.san_book.specs.Plans as book
use Rattle.san_book.specs.Plans.{plan_first, plan_over}
use Rattle.san_chain.specs.Chains.{end_from}
use Rattle.san_core.specs.Machines.{MachineValue, core_in}
use Rattle.san_decide.specs.Booked.{book_of, of_piece, part_at}
use Rattle.san_law.specs.Core.{leaf_of}
use Rattle.san_law.specs.Net.{Row}
use Rattle.san_law.specs.Piece.{LeafState}
use Rattle.san_leaf.specs.Claimed.{claim_of}
use Rattle.san_leaf.specs.Fits.{Fits, KindFits}
use Rattle.san_leaf.specs.Pieces.{IsLog, PieceValue}
use Rattle.san_leaf.specs.States.{kind_in}
use Rattle.san_leaf.specs.Timers.{HasTimed}
use Rattle.san_net.specs.declared.part.Part.{Part}
use Rattle.san_plan.specs.declared.plan.Plan.{Plan}

-- the leaf's first activity has this number
abbrev pub plan_in : ℕ → Plan → book.Plan
plan_in first p = record { kind = kind_in first p.kind; time = p.time.0 }

-- a piece by this plan can be claimed
pub record IsFit (p : Part) (plan : Plan) : Type 0 where
  pub kind : KindFits p plan.kind
  pub time : plan.time.0 ≤ MAX_HORIZON

-- the state that a leaf's chain ends with, which is the committed one where there is no piece
abbrev pub end_state : MachineValue → AheadValue → ℕ → LeafState
end_state m a j = end_from of_piece.end (leaf_of (core_in m) j) (chain_of a.chains j)

-- a chain's last piece was made from what fits, and read numbers of tokens
abbrev pub LastFits : AheadValue → ℕ → Type 0
LastFits a j = (p : PieceValue) → last_of (chain_of a.chains j) ≡ Some p → Fits (claim_of p) × IsLog p.part p.log

-- the piece that a leaf comes to next, by the book
abbrev pub plan_at : MachineValue → AheadValue → ℕ → Option book.Plan
plan_at m a j = plan_over (book_of m.network m.seed m.limits) m.limits.horizon.0 a.lines j (plan_first (book_of m.network m.seed m.limits) m.limits.horizon.0 a.lines j (core_in m).order (leaf_of (core_in m) j)) (chain_of a.chains j)

-- a timer for each activity, and only timed ones have any
pub record RowStands (p : Part) (r : Row) : Type 0 where
  pub timers : length r.timers ≡ length p.atomic.acts
  pub timed : HasTimed p r

-- a leaf's plan can be made: the run goes on and is within the longest one's time, the leaf is there, the state at its chain's end has the part's timers, and its last piece is of the part
pub record IsPlannable (m : MachineValue) (a : AheadValue) (j : ℕ) : Type 0 where
  pub going : m.held.core.stop ≡ None
  pub timely : (core_in m).order.time ≤ MAX_HORIZON
  pub part : j < length m.network.parts
  pub state : j < length m.held.core.leaves
  pub chain : j < length a.chains
  pub row : RowStands (part_at m.network j) (end_state m a j).row
  pub last : (p : PieceValue) → last_of (chain_of a.chains j) ≡ Some p → p.part ≡ part_at m.network j
