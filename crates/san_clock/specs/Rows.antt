-- A leaf's timers and draw numbers in code, as the law says them.
use Rattle.std.specs.Prelude.{ℕ, Result, Ok, Err}
use Rattle.san_base.specs.declared.ending.Trap.{Trap}
use Rattle.san_clock.specs.declared.row.Timer.{Timer}
use Rattle.san_law.specs.Activity.{with_case}
use Rattle.san_law.specs.Net as net

abbrev pub timer_in : Timer → net.Timer
timer_in t = record { due = t.due; held = t.held }

-- the renewed row, or the first activity that traps
abbrev pub renewing_by : Result (Unit {0}) (ℕ × Trap) → net.Row → net.Renewing
renewing_by (Ok done) row = net.Fresh row
renewing_by (Err fault) row = net.Faulty fault.0 fault.1

-- a completion takes one case draw; a trap takes none
abbrev pub counted_by : Result ℕ Trap → net.Row → ℕ → net.Row
counted_by (Ok case) row k = with_case row k
counted_by (Err trap) row k = row
