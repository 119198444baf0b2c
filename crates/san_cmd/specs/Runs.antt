-- What running a text answers, and running what words order: the text of a source, or a generated one.
use Rattle.std.specs.Prelude.{ℕ, ◌≡◌, List, Option, None, Some, Ok}
use Rattle.clap.specs.Simple.{App}
use Rattle.clap.specs.Walk.{Text}
use Rattle.san_base.specs.Flow.{Appends, AppendsPrefix}
use Rattle.san_base.specs.declared.ending.Ending.TheVariants as ending
use Rattle.san_base.specs.declared.ending.Stop.{Stop}
use Rattle.san_base.specs.declared.numbers.Tick.{Tick}
use Rattle.san_base.specs.declared.status.Status.{Status}
use Rattle.san_base.specs.declared.status.Status.TheVariants as status
use Rattle.san_gen.specs.Texts.{model_text}
use Rattle.san_net.specs.Network.{Network}
use Rattle.san_plain.specs.Reports.{Opened, ending_of, report_of, summary_of}
use Rattle.san_serve.specs.Accepted.{IsRefusedText, accepted}
use Rattle.san_serve.specs.Answers.{IsRefused, StatusSays, TextSays}
use Rattle.san_serve.specs.Bounds.{model_bound}
use Rattle.san_serve.specs.Tasks.{TaskMeaning}
use Rattle.san_serve.specs.declared.task.Served.{Served}
use Rattle.san_serve.specs.declared.task.Served.TheVariants as served
use Rattle.san_words.specs.Commands.{IsTaken}
use Rattle.san_words.specs.Hears.{Texts, texts_of}
use Rattle.san_text.specs.declared.text.Refusal.{Refusal}
use Rattle.san_words.specs.declared.orders.Made.{Made}
use Rattle.san_words.specs.declared.orders.Orders.{Orders}

-- the run of a network that is ordered
abbrev pub run_by : Network → Orders → Opened
run_by network o = record { network = network; seed = o.seed; limits = o.limits }

-- what is written of a run: its report; or, where the model is generated, the report's summary: the last event's line, the ending's line and the rewards' lines
abbrev pub output_of : Option Made → Opened → List ℕ
output_of None run = report_of run
output_of (Some made) run = summary_of run

-- how the run ended, and what stands in the sink after what it held
abbrev pub Ran : List ℕ → Opened → Served → Option (List ℕ) → Option (List ℕ) → Type 0
Ran output run served.Done old new = ((horizon : Tick) × (ending_of run ≡ Some (ending.End horizon))) × Appends old new output
Ran output run served.Stopped old new = ((why : Stop) × (ending_of run ≡ Some (ending.Stop why))) × Appends old new output
Ran output run served.WriteFault old new = AppendsPrefix old new output
Ran output run served.NoMemory old new = new ≡ old
Ran output run (served.Refused refusal) old new = ⊥

-- for a text: its network's run
abbrev pub RunsText : Orders → Served → List ℕ → Option (List ℕ) → Option (List ℕ) → Type 0
RunsText o s text old new = (network : Network) × (accepted text ≡ Ok network) × Ran (output_of o.make (run_by network o)) (run_by network o) s old new

-- a model text is run, or refused
abbrev pub run_meaning : Orders → TaskMeaning
run_meaning o = record { bound = model_bound; refuses = IsRefusedText; says = RunsText o }

-- the text of a model that is generated
abbrev pub made_text : Made → List ℕ
made_text made = model_text made.kind made.copies

-- the text that the source gives is run; or the generated one, and then nothing is read
abbrev pub RunsFrom : Option Made → Orders → Status → Option (List ℕ) → Option (List ℕ) → Option (List ℕ) → Option (List ℕ) → Type 0
RunsFrom None o s left rest old new = StatusSays (run_meaning o) s left rest old new
RunsFrom (Some made) o s left rest old new = (rest ≡ left) × TextSays (run_meaning o) s (made_text made) old new

-- what may be refused
abbrev pub RefusesFrom : Option Made → Option (List ℕ) → Option (List ℕ) → Refusal → Type 0
RefusesFrom None left rest refusal = IsRefused model_bound IsRefusedText left rest refusal
RefusesFrom (Some made) left rest refusal = IsRefusedText (made_text made) refusal

-- the same, by the words
abbrev pub RunRefuses : App → (Texts → Orders → Type 0) → List Text → Option (List ℕ) → Option (List ℕ) → Refusal → Type 0
RunRefuses app Say words left rest refusal = (o : Orders) × IsTaken app words × Say (texts_of app words) o × RefusesFrom o.make left rest refusal

-- by the status: the command took the words, and what they order was run
abbrev pub RunsWords : App → (Texts → Orders → Type 0) → List Text → Status → Option (List ℕ) → Option (List ℕ) → Option (List ℕ) → Option (List ℕ) → Type 0
RunsWords app Say words status.Words left rest old new = (IsTaken app words → ⊥) × (rest ≡ left) × (new ≡ old)
RunsWords app Say words status.NoMemory left rest old new = new ≡ old
RunsWords app Say words s left rest old new = (o : Orders) × IsTaken app words × Say (texts_of app words) o × RunsFrom o.make o s left rest old new
