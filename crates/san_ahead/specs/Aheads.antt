-- The lines of code as the book has them.
use Rattle.std.specs.Prelude.{ℕ, ◌<◌, ◌≡◌, List, [], length, Option, None, slice_index_or}
use Rattle.san_base.specs.declared.numbers.PlaceId.{PlaceId}
use Rattle.san_law.specs.Net.{Private, Shared, Slot}
use Rattle.san_line.specs.Lines.{LineValue, find, next_after}
use Rattle.san_book.specs.Lines.{Line, line_of}
use Rattle.san_book.specs.Plans.{lesser, numbers_of}

-- a line, whatever room it has
abbrev pub line_in : LineValue → Line
line_in l = record { committed = l.committed; versions = l.versions }

-- the line of a place that isn't there
abbrev pub no_line : LineValue
no_line = record { committed = 0; versions = []; spare = 0 }

-- the line of the place that the i-th write is to
abbrev pub written_line : List LineValue → List (PlaceId × ℕ) → ℕ → LineValue
written_line lines ws i = slice_index_or lines (slice_index_or ws i (record { 0 = 0 }, 0)).0.0 no_line

-- each written line has room for one more version
abbrev pub HaveRoom : List LineValue → List (PlaceId × ℕ) → Type 0
HaveRoom lines ws = (i : ℕ) → i < length ws → 0 < (written_line lines ws i).spare

-- no written line has a version of a leaf and a number
abbrev pub HaveNone : ℕ → ℕ → List LineValue → List (PlaceId × ℕ) → Type 0
HaveNone leaf pos lines ws = (i : ℕ) → i < length ws → find leaf pos (written_line lines ws i).versions ≡ None

-- the lesser of a time and a leaf, and those of the first version above a time by another leaf, where a cell is shared
abbrev pub or_version : List Line → ℕ → ℕ → Slot → Option (ℕ × ℕ) → Option (ℕ × ℕ)
or_version lines j after (Private q) least = least
or_version lines j after (Shared q) least = lesser (numbers_of (next_after j after (line_of lines q).versions)) least
