-- The lines of the shared places: a committed value each, and versions over it.
use Rattle.std.specs.Prelude.{ℕ, ◌≡◌, ◌<◌, nat_eq, ◌&&◌, List, [], ◌∷◌, length, Option, Some, None, Bool, true, false, slice_get, slice_index, slice_index_or, slice_set, if◌then◌else◌}
use Rattle.san_base.specs.declared.piece.Stamp.{Stamp}
use Rattle.san_line.specs.declared.version.Version.{Version}
use Rattle.san_line.specs.Lines.{inserted, value_at, without}
use Rattle.san_log.specs.Logs.{Entry}

-- a place's committed value, and the versions over it in order
pub record Line : Type 0 where
  pub committed : ℕ
  pub versions : List Version

-- the line of a place that is not there
abbrev pub no_line : Line
no_line = record { committed = 0; versions = [] }

-- a place's line
abbrev pub line_of : List Line → ℕ → Line
line_of lines q = slice_index_or lines q no_line

-- the value that is written at a place
abbrev pub write_of : ℕ → List (ℕ × ℕ) → Option ℕ
write_of q [] = None
write_of q (w ∷ ws) = if nat_eq w.0 q then Some w.1 else write_of q ws

-- each written place is one of so many, and none is written twice
abbrev pub AreWrites : ℕ → List (ℕ × ℕ) → Type 0
AreWrites n [] = Unit {0}
AreWrites n (w ∷ ws) = (w.0 < n) × (write_of w.0 ws ≡ None) × AreWrites n ws

-- the version of a written value
abbrev pub version_at : ℕ → ℕ → ℕ → ℕ → Version
version_at time leaf pos v = record { time = record { 0 = time }; leaf = record { 0 = leaf }; pos = pos; value = v }

-- the lines of the written places, changed one after another
abbrev pub each : (ℕ → ℕ → Line → Line) → List (ℕ × ℕ) → List Line → List Line
each f [] lines = lines
each f (w ∷ ws) lines = each f ws (slice_set lines w.0 (f w.0 w.1 (line_of lines w.0)))

-- a written value becomes a version
abbrev pub put : ℕ → ℕ → ℕ → ℕ → ℕ → Line → Line
put time leaf pos q v l = record { committed = l.committed; versions = inserted (version_at time leaf pos v) l.versions }

-- its version goes
abbrev pub withdraw : ℕ → ℕ → ℕ → ℕ → Line → Line
withdraw leaf pos q v l = record { committed = l.committed; versions = without leaf pos l.versions }

-- what is committed at a written place becomes the line's committed value
abbrev pub commit : List ℕ → ℕ → ℕ → Line → Line
commit shared q v l = record { committed = slice_index shared q; versions = l.versions }

-- the value that a stamp sees, where there is a line
abbrev pub seen_in : Stamp → Option Line → Option ℕ
seen_in s None = None
seen_in s (Some l) = Some (value_at s l.committed l.versions)

-- by place
abbrev pub seen_at : List Line → Stamp → ℕ → Option ℕ
seen_at lines s q = seen_in s (slice_get lines q)

-- a value is there
abbrev pub is_value : ℕ → Option ℕ → Bool
is_value v None = false
is_value v (Some w) = nat_eq w v

-- each place of a log has its value
abbrev pub agrees : (ℕ → Option ℕ) → List Entry → Bool
agrees at [] = true
agrees at (e ∷ es) = is_value e.1 (at e.0.0) && agrees at es

-- each line has the value that is committed
abbrev pub AreCommitted : List Line → List ℕ → Type 0
AreCommitted lines shared = (q : ℕ) → q < length lines → (line_of lines q).committed ≡ slice_index shared q
