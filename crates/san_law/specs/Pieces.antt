-- The pieces of a run: those that a core takes one after another until it has ended.
use Rattle.std.specs.Prelude.{ℕ, zero, suc, List, [], ◌∷◌, Option, Some, None}
use Rattle.san_law.specs.Net.{Net}
use Rattle.san_law.specs.Step.{End, Ending}
use Rattle.san_law.specs.Piece.{Kind, Outcome, piece_of}
use Rattle.san_law.specs.Order.{Finished, Need, Needs, need_of}
use Rattle.san_law.specs.Core.{Core, leaf_of, taken}
use Rattle.san_law.specs.Left.{left}

-- a piece of a leaf, of a kind, at a time, and what it makes
pub record Piece : Type 0 where
  pub leaf : ℕ
  pub kind : Kind
  pub time : ℕ
  pub outcome : Outcome

-- the piece that meets a need
abbrev pub piece_for : Net → Core → Need → Option Piece
piece_for net c (Needs j kind time) = Some (record { leaf = j; kind = kind; time = time; outcome = piece_of net j kind time (leaf_of c j) c.shared })
piece_for net c Finished = None

-- the needed piece, made from the committed values; a core that has ended needs none
abbrev pub unless_stopped : Net → Core → Option Ending → Option Piece
unless_stopped net c (Some e) = None
unless_stopped net c None = piece_for net c (need_of net.horizon c.order)

-- the piece that comes next
abbrev pub next_piece : Net → Core → Option Piece
next_piece net c = unless_stopped net c c.stop

-- a piece, and then those of the core that it leaves
abbrev pub pieces_by : (Core → List Piece) → Net → Core → Option Piece → List Piece
pieces_by go net c None = []
pieces_by go net c (Some p) = p ∷ go (taken net c p.leaf p.kind p.time p.outcome)

-- at most so many
abbrev pub pieces_from : Net → ℕ → Core → List Piece
pieces_from net zero c = []
pieces_from net (suc n) c = pieces_by (pieces_from net n) net c (next_piece net c)

-- all pieces of the run from a core on
abbrev pub pieces : Net → Core → List Piece
pieces net c = pieces_from net (left net c) c

-- when and how a core has ended: by its stop, or at the horizon where it needs no piece
abbrev pub end_of : Net → Need → Option (ℕ × Ending)
end_of net Finished = Some (net.horizon, End)
end_of net (Needs j kind time) = None

-- a stop is at the time of its piece
abbrev pub ended_by : Net → Core → Option Ending → Option (ℕ × Ending)
ended_by net c (Some e) = Some (c.order.time, e)
ended_by net c None = end_of net (need_of net.horizon c.order)

-- the outcome of a core, where it has ended
abbrev pub outcome_of_core : Net → Core → Option (ℕ × Ending)
outcome_of_core net c = ended_by net c c.stop

-- the same core with its events before it: the start of the next stretch
abbrev pub resumed : Core → Core
resumed c = record { leaves = c.leaves; shared = c.shared; order = c.order; burst = c.burst; count = c.count; events = []; tally = c.tally; stop = None }
