-- The lines of a report, and what goes out of it page by page.
use Rattle.std.specs.Prelude.{ℕ, ◌≡◌, ◌++◌, List, Option}
use Rattle.san_base.specs.Flow.{Appends}
use Rattle.san_net.specs.Laid.{acts_of}
use Rattle.san_net.specs.Network.{Network}
use Rattle.san_report.specs.Lines.{ending_line, event_line, reward_line}
use Rattle.san_report.specs.Puts.{EndsIn}
use Rattle.san_report.specs.declared.pages.Line.{Line}
use Rattle.san_report.specs.declared.pages.Line.TheVariants as line
use Rattle.std.specs.Prelude.{◌<◌}

abbrev pub line_of : Network → Line → List ℕ
line_of n (line.Event k event) = event_line n k event
line_of n (line.Ending k ending) = ending_line n k ending
line_of n (line.Reward reward worth) = reward_line reward.now.name worth

-- a line is of the network's activities
abbrev pub IsIn : Network → Line → Type 0
IsIn n (line.Event k event) = event.act.0 < acts_of n.parts
IsIn n (line.Ending k ending) = EndsIn n ending
IsIn n (line.Reward reward worth) = Unit {0}

-- of a whole text a front part went out; what is on the page, and the rest, come after it
abbrev pub Sent : Option (List ℕ) → Option (List ℕ) → List ℕ → List ℕ → List ℕ → Type 0
Sent first now page whole rest = (gone : List ℕ) × Appends first now gone × (gone ++ (page ++ rest) ≡ whole)
