-- Where a run goes on: a core with other events before its own takes the same pieces, and they are the rest.
use Rattle.std.specs.Prelude.{ℕ, ◌+◌, ◌<◌, ◌≤◌, ◌≡◌, List, [], ◌++◌, length, Some, None, drop}
use Rattle.san_law.specs.Net.{Net, Rated}
use Rattle.san_law.specs.State.{State, opening_state}
use Rattle.san_law.specs.Step.{Event}
use Rattle.san_law.specs.Piece.{Kind, Outcome}
use Rattle.san_law.specs.Core.{Core, advance, after_pieces, taken}
use Rattle.san_law.specs.Pieces.{Piece, next_piece, pieces, resumed}
use Rattle.san_law.specs.Lawful.{IsLaid}
use Rattle.san_law.specs.Opening.{opening_core}
use Rattle.san_law.specs.Rates.{with_rates}
use Rattle.san_law.specs.Standing.{Follows}

-- with these events before its own
abbrev pub before : List Event → Core → Core
before es c = record { leaves = c.leaves; shared = c.shared; order = c.order; burst = c.burst; count = c.count; events = es ++ c.events; tally = c.tally; stop = c.stop }

abbrev pub TakenBefore : Net → Type 0
TakenBefore net = (es : List Event) (c : Core) (j : ℕ) (kind : Kind) (time : ℕ) (o : Outcome) → taken net (before es c) j kind time o ≡ before es (taken net c j kind time o)

abbrev pub AdvanceBefore : Net → Type 0
AdvanceBefore net = (es : List Event) (c : Core) → advance net (before es c) ≡ before es (advance net c)

abbrev pub AfterBefore : Net → Type 0
AfterBefore net = (es : List Event) (c : Core) (m : ℕ) → after_pieces net m (before es c) ≡ before es (after_pieces net m c)

abbrev pub PiecesBefore : Net → Type 0
PiecesBefore net = (es : List Event) (c : Core) → pieces net (before es c) ≡ pieces net c

-- the pieces after so many are the rest of the pieces
abbrev pub RestOfPieces : Net → Type 0
RestOfPieces net = (opening : State) (past : List Event) (c : Core) → Follows net opening past c → (m : ℕ) → pieces net (after_pieces net m c) ≡ drop m (pieces net c)

-- after so many and one more
abbrev pub AfterMore : Net → Type 0
AfterMore net = (c : Core) (m k : ℕ) → after_pieces net (m + k) c ≡ after_pieces net m (after_pieces net k c)

-- where one more is needed after so many, there are more than so many
abbrev pub MorePieces : Net → Type 0
MorePieces net = (opening : State) (past : List Event) (c : Core) → Follows net opening past c → (m : ℕ) (p : Piece) → next_piece net (after_pieces net m c) ≡ Some p → m < length (pieces net c)

-- where none is needed after so many, there are no more
abbrev pub NoMorePieces : Net → Type 0
NoMorePieces net = (opening : State) (past : List Event) (c : Core) → Follows net opening past c → (m : ℕ) → next_piece net (after_pieces net m c) ≡ None → length (pieces net c) ≤ m

-- a core from which the run of a network goes on: it has come there by the events before it, and has no events of its own and no stop
pub record IsStart (net : Net) (c : Core) : Type 0 where
  pub follows : (past : List Event) × Follows net (opening_state net) past c
  pub quiet : c.events ≡ []
  pub going : c.stop ≡ None

-- an opening is one, at any rates
abbrev pub OpeningIsStart : Net → Type 0
OpeningIsStart net = IsLaid net (length net.initial) → (rates : List (List Rated)) → length rates ≡ length net.parts → IsStart net (with_rates rates (opening_core net))

-- and so is a core without a stop, with its own events before it
abbrev pub ResumedIsStart : Net → Type 0
ResumedIsStart net = (past : List Event) (c : Core) → c.stop ≡ None → Follows net (opening_state net) past c → IsStart net (resumed c)
