-- What reading and serving came to, before its line is put into the notes.
use Rattle.std.specs.Prelude.{ℕ, ◌≡◌, List, Option, Result, Ok, Err}
use Rattle.san_base.specs.declared.status.Status.{Status}
use Rattle.san_base.specs.declared.status.Status.TheVariants as status
use Rattle.san_text.specs.declared.text.Refusal.{Refusal}
use Rattle.san_serve.specs.Answers.{StatusSays, TextSays, IsRefused}
use Rattle.san_serve.specs.Tasks.{TaskMeaning}
use Rattle.san_serve.specs.declared.task.Served.{Served}
use Rattle.san_serve.specs.declared.task.Served.TheVariants as served

-- the status, or the refusal
abbrev pub answer_of : Served → Result Status Refusal
answer_of served.Done = Ok status.Done
answer_of served.Stopped = Ok status.Stopped
answer_of served.WriteFault = Ok status.WriteFault
answer_of served.NoMemory = Ok status.NoMemory
answer_of (served.Refused refusal) = Err refusal

-- no text comes to the status of words that aren't taken or of a read fault, nor to that of a refusal without one
abbrev pub ServesText : TaskMeaning → Result Status Refusal → List ℕ → Option (List ℕ) → Option (List ℕ) → Type 0
ServesText m (Ok status.Refused) text old new = ⊥
ServesText m (Ok s) text old new = TextSays m s text old new
ServesText m (Err refusal) text old new = m.refuses text refusal × (new ≡ old)

-- no source comes to the status of words that aren't taken, nor to that of a refusal without one
abbrev pub Serves : TaskMeaning → Result Status Refusal → Option (List ℕ) → Option (List ℕ) → Option (List ℕ) → Option (List ℕ) → Type 0
Serves m (Ok status.Words) left rest old new = ⊥
Serves m (Ok status.Refused) left rest old new = ⊥
Serves m (Ok s) left rest old new = StatusSays m s left rest old new
Serves m (Err refusal) left rest old new = IsRefused m.bound m.refuses left rest refusal × (new ≡ old)
