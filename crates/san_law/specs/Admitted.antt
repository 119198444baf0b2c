-- Which events of a piece the limits let through, and the ending where one comes.
use Rattle.std.specs.Prelude.{ℕ, ◌+◌, List, [], ◌∷◌, Option, Some, None, cond}
use Rattle.san_law.specs.Net.{Net}
use Rattle.san_law.specs.Step.{Ending, Event, Trapped, count_limit, limit_at}
use Rattle.san_law.specs.Block.{Completion, Fault}

-- events, and perhaps the ending that stops them
abbrev pub Admitted : Type 0
Admitted = List Event × Option Ending

-- a limit goes before a trap
abbrev pub ending_or : Option Ending → Ending → Ending
ending_or None e = e
ending_or (Some o) e = o

-- the ending of a fault; where the activity was picked, the limits come first
abbrev pub closing : Net → ℕ → ℕ → ℕ → Option Fault → Option Ending
closing net j burst count None = None
closing net j burst count (Some f) = Some (ending_or (cond f.picked (limit_at net burst count) None) (Trapped j f.act f.trap))

-- a completion as an event
abbrev pub event_by : ℕ → ℕ → Completion → Event
event_by time j c = record { time = time; leaf = j; act = c.act; case = c.case; impulses = c.impulses }

-- an event, and then the others
abbrev pub event_then : Event → Admitted → Admitted
event_then e t = (e ∷ t.0, t.1)

-- a limit lets no more through
abbrev pub unless_ended : Option Ending → Admitted → Admitted
unless_ended (Some e) rest = ([], Some e)
unless_ended None rest = rest

-- one completion after another, each under the limits of a step
abbrev pub admitted : Net → ℕ → ℕ → ℕ → ℕ → Option Fault → List Completion → Admitted
admitted net time j burst count fault [] = ([], closing net j burst count fault)
admitted net time j burst count fault (c ∷ cs) = unless_ended (limit_at net burst count) (event_then (event_by time j c) (admitted net time j (burst + 1) (count + 1) fault cs))

-- the ending of a fault without a limit
abbrev pub trap_of : ℕ → Option Fault → Option Ending
trap_of j None = None
trap_of j (Some f) = Some (Trapped j f.act f.trap)

-- a fired completion sets the burst to 0, and meets the limit of events alone
abbrev pub admitted_rest : Net → ℕ → ℕ → ℕ → Option Fault → List Completion → Admitted
admitted_rest net time j count fault [] = ([], trap_of j fault)
admitted_rest net time j count fault (c ∷ cs) = event_then (event_by time j c) (admitted net time j 0 (count + 1) fault cs)

-- the fired completion within the event limit
abbrev pub admitted_fire : Net → ℕ → ℕ → ℕ → Option Fault → List Completion → Admitted
admitted_fire net time j count fault cs = unless_ended (count_limit net count) (admitted_rest net time j count fault cs)
