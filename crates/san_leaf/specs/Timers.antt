-- At which activities timers stand, and that pieces keep it.
use Rattle.std.specs.Prelude.{ℕ, ◌+◌, ◌≡◌, List, Option, Some, slice_get}
use Rattle.san_base.specs.declared.numbers.ActId.{ActId}
use Rattle.san_base.specs.declared.piece.Kind.TheVariants.{Fire}
use Rattle.san_law.specs.Net.{Row, Timer, least_timer}
use Rattle.san_law.specs.Piece.{Kind, LeafState}
use Rattle.san_net.specs.Instants.{Named}
use Rattle.san_net.specs.declared.part.Part.{Part}
use Rattle.san_leaf.specs.Fits.{IsTimed, KindFits}
use Rattle.san_leaf.specs.Pieces.{opened_state, piece_in}

-- each timer is that of a timed activity
abbrev pub AreOfTimed : List Named → List (Option Timer) → Type 0
AreOfTimed acts timers = (k : ℕ) (t : Timer) → slice_get timers k ≡ Some (Some t) → (a : Named) × (slice_get acts k ≡ Some a) × IsTimed a.1.kind

abbrev pub HasTimed : Part → Row → Type 0
HasTimed p row = AreOfTimed p.atomic.acts row.timers

-- a leaf has no timer before its first piece
abbrev pub OpensTimed : Part → Type 0
OpensTimed p = HasTimed p (opened_state p).row

-- a renewal sets timers at timed activities alone, and a completion sets none
abbrev pub PiecesKeepTimed : Part → Type 0
PiecesKeepTimed p = (seed : ℕ) (kind : Kind) (time : ℕ) (base : LeafState) (shared : List ℕ) → HasTimed p base.row → HasTimed p (piece_in p seed kind time base shared).state.row

-- so the least timer's activity can fire
abbrev pub LeastTimerFits : Part → Type 0
LeastTimerFits p = (row : Row) (due k : ℕ) (act : ActId) → HasTimed p row → least_timer row ≡ Some (due, k) → act.0 ≡ p.first.0 + k → KindFits p (Fire act)
