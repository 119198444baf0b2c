-- Chains of pieces that were made ahead, and what they write into the lines.
use Rattle.std.specs.Prelude.{ℕ, suc, ◌≡◌, ◌<◌, nat_eq, ◌||◌, List, [], ◌∷◌, length, Option, Some, None, Bool, false, slice_index_or, if◌then◌else◌}
use Rattle.san_base.specs.declared.piece.Stamp.{Stamp}
use Rattle.san_line.specs.declared.version.Version.{Version}
use Rattle.san_line.specs.Lines.{find}
use Rattle.san_line.specs.Ordered.{IsOrdered}
use Rattle.san_book.specs.Machines.{Machine, PieceReading, sees_all}
use Rattle.san_book.specs.Lines.{AreWrites, Line, agrees, each, line_of, put, seen_at, version_at, withdraw, write_of}

-- pieces with their numbers
abbrev pub Chain : Type 0 → Type 0
Chain P = List (ℕ × P)

-- a leaf's chain
abbrev pub chain_of : {P : Type 0} → List (Chain P) → ℕ → Chain P
chain_of chains j = slice_index_or chains j []

-- the version of what a piece writes at a place
abbrev pub version_of : ℕ → ℕ → ℕ → Option ℕ → Option Version
version_of time leaf pos None = None
version_of time leaf pos (Some v) = Some (version_at time leaf pos v)

-- the version of what a leaf's piece of this number writes at a place
abbrev pub written : {S P : Type 0} → PieceReading S P → ℕ → ℕ → ℕ → Chain P → Option Version
written r leaf q pos [] = None
written r leaf q pos (x ∷ xs) = if nat_eq x.0 pos then version_of (r.time x.1) leaf x.0 (write_of q (r.writes x.1)) else written r leaf q pos xs

-- a piece has this number
abbrev pub has : {P : Type 0} → ℕ → Chain P → Bool
has pos [] = false
has pos (x ∷ xs) = nat_eq x.0 pos || has pos xs

-- no number twice
abbrev pub AreNumberedApart : {P : Type 0} → Chain P → Type 0
AreNumberedApart [] = Unit {0}
AreNumberedApart (x ∷ xs) = (has x.0 xs ≡ false) × AreNumberedApart xs

-- each piece has a number below the leaf's next one
abbrev pub AreNumberedBelow : {P : Type 0} → ℕ → Chain P → Type 0
AreNumberedBelow n [] = Unit {0}
AreNumberedBelow n (x ∷ xs) = (x.0 < n) × AreNumberedBelow n xs

-- each piece writes places among so many, each once
abbrev pub AllFit : {S P : Type 0} → PieceReading S P → ℕ → Chain P → Type 0
AllFit r n [] = Unit {0}
AllFit r n (x ∷ xs) = AreWrites n (r.writes x.1) × AllFit r n xs

-- the first piece begins with a state, and each other where the one before it ends
abbrev pub Connects : {S P : Type 0} → PieceReading S P → S → Chain P → Type 0
Connects r s [] = Unit {0}
Connects r s (x ∷ xs) = (r.base x.1 ≡ s) × Connects r (r.end x.1) xs

-- each piece is what its log makes
abbrev pub AreMadeByLogs : {H S P : Type 0} → Machine H S P → ℕ → Chain P → Type 0
AreMadeByLogs m j [] = Unit {0}
AreMadeByLogs m j (x ∷ xs) = (m.makes j (m.reading.base x.1) (m.reading.kind x.1) (m.reading.time x.1) (m.reading.log x.1) ≡ Some x.1) × AreMadeByLogs m j xs

-- what a leaf's piece of a number writes comes into the lines
abbrev pub with_piece : {S P : Type 0} → PieceReading S P → ℕ → ℕ → P → List Line → List Line
with_piece r leaf pos p lines = each (put (r.time p) leaf pos) (r.writes p) lines

-- and goes
abbrev pub without_piece : {S P : Type 0} → PieceReading S P → ℕ → ℕ → P → List Line → List Line
without_piece r leaf pos p lines = each (withdraw leaf pos) (r.writes p) lines

-- what all of a leaf's pieces write goes
abbrev pub without_pieces : {S P : Type 0} → PieceReading S P → ℕ → Chain P → List Line → List Line
without_pieces r leaf [] lines = lines
without_pieces r leaf (x ∷ xs) lines = without_pieces r leaf xs (without_piece r leaf x.0 x.1 lines)

-- where a piece in a chain stands
abbrev pub stamp_of : {S P : Type 0} → PieceReading S P → ℕ → ℕ → P → Stamp
stamp_of r leaf pos p = record { time = record { 0 = r.time p }; leaf = record { 0 = leaf }; pos = pos; all = sees_all (r.kind p) }

-- a piece read what the lines have at its stamp
abbrev pub is_current : {S P : Type 0} → PieceReading S P → List Line → ℕ → ℕ × P → Bool
is_current r lines leaf x = agrees (seen_at lines (stamp_of r leaf x.0 x.1)) (r.log x.1)

-- how many pieces stand before the first that didn't
abbrev pub current : {S P : Type 0} → PieceReading S P → List Line → ℕ → Chain P → ℕ
current r lines leaf [] = 0
current r lines leaf (x ∷ xs) = if is_current r lines leaf x then suc (current r lines leaf xs) else 0

-- the versions of each line are in order, and they are what the chains' pieces write there: no other, and each once
pub record Exact {S P : Type 0} (r : PieceReading S P) (lines : List Line) (chains : ℕ → Chain P) : Type 0 where
  pub ordered : (q : ℕ) → IsOrdered (line_of lines q).versions
  pub versions : (q j pos : ℕ) → q < length lines → find j pos (line_of lines q).versions ≡ written r j q pos (chains j)
