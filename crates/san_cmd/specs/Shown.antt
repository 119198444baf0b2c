-- What showing a text answers.
use Rattle.std.specs.Prelude.{ℕ, ◌≡◌, List, Option, Ok}
use Rattle.san_base.specs.Flow.{Appends, AppendsPrefix}
use Rattle.san_text.specs.Texts.{parsed}
use Rattle.san_text.specs.declared.text.Parsed.{Parsed}
use Rattle.san_show.specs.Canonical.{canonical}
use Rattle.san_net.specs.Network.{Network}
use Rattle.san_serve.specs.Accepted.{IsRefusedText, accepted}
use Rattle.san_serve.specs.Bounds.{model_bound}
use Rattle.san_serve.specs.Tasks.{TaskMeaning}
use Rattle.san_serve.specs.declared.task.Served.{Served}
use Rattle.san_serve.specs.declared.task.Served.TheVariants as served

-- the text is accepted, and this is the canonical text of its syntax
abbrev pub IsShown : List ℕ → List ℕ → Type 0
IsShown text canon = (x : Parsed) × (network : Network) × (parsed text ≡ Ok x) × (accepted text ≡ Ok network) × (canon ≡ canonical x.syntax)

-- for a text that was read: what stands in the sink after what it held
abbrev pub ShowsText : Served → List ℕ → Option (List ℕ) → Option (List ℕ) → Type 0
ShowsText served.Done text old new = (canon : List ℕ) × IsShown text canon × Appends old new canon
ShowsText served.WriteFault text old new = (canon : List ℕ) × IsShown text canon × AppendsPrefix old new canon
ShowsText s text old new = ⊥

-- a model text is shown, or refused
abbrev pub show_meaning : TaskMeaning
show_meaning = record { bound = model_bound; refuses = IsRefusedText; says = ShowsText }
