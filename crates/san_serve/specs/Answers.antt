-- What a top call answers: what was read, what was written, and why.
use Rattle.std.specs.Prelude.{ℕ, ◌≡◌, ◌⊎◌, List, Option, Result, Ok, Err}
use Rattle.san_base.specs.Flow.{TakesUpTo}
use Rattle.san_base.specs.declared.status.Status.{Status}
use Rattle.san_base.specs.declared.status.Status.TheVariants as status
use Rattle.san_text.specs.declared.text.Refusal.{Refusal}
use Rattle.san_serve.specs.Bounds.{IsRead, IsTooLong, too_long}
use Rattle.san_serve.specs.Tasks.{TaskMeaning}
use Rattle.san_serve.specs.declared.bound.Bound.{Bound}
use Rattle.san_serve.specs.declared.task.Served.{Served}
use Rattle.san_serve.specs.declared.task.Served.TheVariants as served

-- more bytes were taken than may be, or the bytes read are refused
abbrev pub IsRefused : Bound → (List ℕ → Refusal → Type 0) → Option (List ℕ) → Option (List ℕ) → Refusal → Type 0
IsRefused bound Refuses left rest refusal = (IsTooLong bound left rest × (refusal ≡ too_long bound)) ⊎ ((bytes : List ℕ) × IsRead bound left rest bytes × Refuses bytes refusal)

-- what serving bytes came to
abbrev pub ServesBytes : TaskMeaning → Served → List ℕ → Option (List ℕ) → Option (List ℕ) → Type 0
ServesBytes m (served.Refused refusal) bytes old new = m.refuses bytes refusal × (new ≡ old)
ServesBytes m served.NoMemory bytes old new = new ≡ old
ServesBytes m s bytes old new = m.says s bytes old new

-- bytes that a source gave were served
abbrev pub ServesRead : TaskMeaning → Served → Option (List ℕ) → Option (List ℕ) → Option (List ℕ) → Option (List ℕ) → Type 0
ServesRead m s left rest old new = (bytes : List ℕ) × IsRead m.bound left rest bytes × m.says s bytes old new

-- by the status: what stands in the sink after what it held, of a text that needn't be read
abbrev pub TextSays : TaskMeaning → Status → List ℕ → Option (List ℕ) → Option (List ℕ) → Type 0
TextSays m status.Done text old new = m.says served.Done text old new
TextSays m status.Stopped text old new = m.says served.Stopped text old new
TextSays m status.WriteFault text old new = m.says served.WriteFault text old new
TextSays m status.NoMemory text old new = new ≡ old
TextSays m status.Refused text old new = (refusal : Refusal) × m.refuses text refusal × (new ≡ old)
TextSays m status.ReadFault text old new = ⊥
TextSays m status.Words text old new = ⊥

-- by the status: what is left of the source after it, and what stands in the sink after what it held
abbrev pub StatusSays : TaskMeaning → Status → Option (List ℕ) → Option (List ℕ) → Option (List ℕ) → Option (List ℕ) → Type 0
StatusSays m status.Done left rest old new = ServesRead m served.Done left rest old new
StatusSays m status.Stopped left rest old new = ServesRead m served.Stopped left rest old new
StatusSays m status.WriteFault left rest old new = ServesRead m served.WriteFault left rest old new
StatusSays m status.ReadFault left rest old new = TakesUpTo left rest m.bound.bytes × (new ≡ old)
StatusSays m status.NoMemory left rest old new = new ≡ old
StatusSays m status.Refused left rest old new = (refusal : Refusal) × IsRefused m.bound m.refuses left rest refusal × (new ≡ old)
StatusSays m status.Words left rest old new = (rest ≡ left) × (new ≡ old)
