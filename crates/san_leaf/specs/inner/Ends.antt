-- The outcome of a piece's completions, by what was made and the cells as they are then.
use Rattle.std.specs.Prelude.{ℕ, List, [], ◌∷◌, Option, Some, None}
use Rattle.san_law.specs.Block.{Completion, fault_of, more_of}
use Rattle.san_law.specs.Net.{Row, without_timer}
use Rattle.san_law.specs.Piece.{LeafState, Outcome}
use Rattle.san_net.specs.declared.part.Part.{Part}
use Rattle.san_law.specs.Block as law
use Rattle.san_law.specs.Piece as piece
use Rattle.san_leaf.specs.inner.Cells.{noted, owned}
use Rattle.san_leaf.specs.Pieces.{PieceValue, slots_in}
use Rattle.san_leaf.specs.inner.Turns.{close_in}
use Rattle.san_leaf.specs.inner.Recorded.{Recorded}
use Rattle.san_leaf.specs.declared.block.Close.{Close}
use Rattle.san_leaf.specs.Claimed.{Claimed}

-- nothing is recorded yet
abbrev pub nothing_recorded : Recorded
nothing_recorded = record { completions = []; pending = [] }

-- an activity that fires, or none
abbrev pub kind_by : Option ℕ → piece.Kind
kind_by None = piece.Settle
kind_by (Some k) = piece.Fire k

-- the row as the completions begin
abbrev pub row_by : Option ℕ → Row → Row
row_by None row = row
row_by (Some k) row = without_timer row k

-- no completion was made
abbrev pub idle : LeafState → law.Close → Outcome
idle base close = record { completions = []; writes = []; state = base; rates = []; fault = fault_of close; more = more_of close }

-- some were made, and the cells and the row are so
abbrev pub busy : Part → LeafState → List (Option ℕ) → Row → List Completion → law.Close → Outcome
busy p base cells row completions close = record {
  completions = completions;
  writes = noted (slots_in p) cells;
  state = record { values = owned (slots_in p) cells; row = row; seen = base.seen };
  rates = [];
  fault = fault_of close;
  more = more_of close;
}

abbrev pub outcome_by : Part → LeafState → List (Option ℕ) → Row → List Completion → law.Close → Outcome
outcome_by p base cells row [] close = idle base close
outcome_by p base cells row (c ∷ cs) close = busy p base cells row (c ∷ cs) close

-- the piece of these cells
abbrev pub piece_of_cells : Claimed → Recorded → Row → Close → List (Option ℕ) → List (Option ℕ) → PieceValue
piece_of_cells c recorded row close cells read = record { part = c.part; seed = c.seed; kind = c.kind; base = c.base; time = c.time; log = noted (slots_in c.part) read; outcome = outcome_by c.part c.base cells row recorded.completions (close_in close) }
