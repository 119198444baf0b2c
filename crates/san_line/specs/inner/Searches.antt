-- How far a stamp may see.
use Rattle.std.specs.Prelude.{Bool, true, false, nat_le}
use Rattle.san_base.specs.declared.piece.Stamp.{Stamp}
use Rattle.san_line.specs.Lines.{sees}
use Rattle.san_line.specs.declared.version.Version.{Version}

-- with all others of its time, as far as its time; else as far as it sees
abbrev pub reaches_by : Bool → Stamp → Version → Bool
reaches_by true s v = nat_le v.time.0 s.time.0
reaches_by false s v = sees s v

abbrev pub reaches : Stamp → Version → Bool
reaches s v = reaches_by s.all s v
