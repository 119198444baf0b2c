-- How many of a piece's completions the limits let through.
use Rattle.std.specs.Prelude.{ℕ, zero, suc, ◌+◌, Option, Some, None, cond}
use Rattle.san_law.specs.Admitted.{ending_or, trap_of}
use Rattle.san_law.specs.Block.{Fault}
use Rattle.san_law.specs.Piece.{Fire, Kind, Refresh, Settle}
use Rattle.san_law.specs.Step.{Ending, Events, Trapped, Unstable, events_left, limit_by}
use Rattle.san_core.specs.declared.over.Over.{Over}
use Rattle.san_core.specs.declared.over.Over.TheVariants as over

abbrev pub over_in : Over → Ending
over_in over.Unstable = Unstable
over_in over.Events = Events
over_in (over.Trapped leaf act number trap) = Trapped leaf.0 act trap

-- so many, and the ending that stops them
abbrev pub passes_by : Option Ending → ℕ × Option Ending → ℕ × Option Ending
passes_by (Some e) rest = (0, Some e)
passes_by None rest = (suc rest.0, rest.1)

-- one completion after another, each under both limits
abbrev pub passes : ℕ → ℕ → ℕ → ℕ → ℕ → ℕ × Option Ending
passes most limit burst count zero = (0, None)
passes most limit burst count (suc n) = passes_by (limit_by most limit burst count) (passes most limit (burst + 1) (count + 1) n)

-- so many let through before
abbrev pub further : ℕ → ℕ × Option Ending → ℕ × Option Ending
further k p = (k + p.0, p.1)

-- a limit, or else what closes the piece
abbrev pub ends_by : Option Ending → Option Ending → Option Ending
ends_by (Some e) close = Some e
ends_by None close = close

-- the ending of a fault; where the activity was picked, the limits come first
abbrev pub closes : ℕ → ℕ → ℕ → ℕ → ℕ → Option Fault → Option Ending
closes most limit j burst count None = None
closes most limit j burst count (Some f) = Some (ending_or (cond f.picked (limit_by most limit burst count) None) (Trapped j f.act f.trap))

-- completions under both limits, and then the fault
abbrev pub closed_by : ℕ → ℕ → ℕ → ℕ → ℕ → Option Fault → ℕ × Option Ending → ℕ × Option Ending
closed_by most limit j burst count fault p = (p.0, ends_by p.1 (closes most limit j (burst + p.0) (count + p.0) fault))

abbrev pub admits_settled : ℕ → ℕ → ℕ → ℕ → ℕ → Option Fault → ℕ → ℕ × Option Ending
admits_settled most limit j burst count fault n = closed_by most limit j burst count fault (passes most limit burst count n)

-- one let through before them
abbrev pub one_more : ℕ × Option Ending → ℕ × Option Ending
one_more p = (suc p.0, p.1)

-- the first of a fired piece sets the burst to 0
abbrev pub admits_rest : ℕ → ℕ → ℕ → ℕ → Option Fault → ℕ → ℕ × Option Ending
admits_rest most limit j count fault zero = (0, trap_of j fault)
admits_rest most limit j count fault (suc n) = one_more (admits_settled most limit j 0 (count + 1) fault n)

-- where no limit came
abbrev pub unless_over : Option Ending → ℕ × Option Ending → ℕ × Option Ending
unless_over (Some e) rest = (0, Some e)
unless_over None rest = rest

-- by the kind of the piece
abbrev pub admits : ℕ → ℕ → ℕ → ℕ → ℕ → Kind → Option Fault → ℕ → ℕ × Option Ending
admits most limit j burst count (Fire k) fault n = unless_over (events_left limit count) (admits_rest most limit j count fault n)
admits most limit j burst count Settle fault n = admits_settled most limit j burst count fault n
admits most limit j burst count Refresh fault n = admits_settled most limit j burst count fault n
