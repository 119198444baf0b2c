-- What `sanbatch` answers: the batch that words order of the network that a text describes.
use Rattle.std.specs.Prelude.{ℕ, ◌≡◌, List, Option}
use Rattle.san_base.specs.declared.status.Status.{Status}
use Rattle.san_base.specs.declared.status.Status.TheVariants as status
use Rattle.san_net.specs.Network.{Network}
use Rattle.san_serve.specs.Accepted.{IsRefusedText, accepted}
use Rattle.san_serve.specs.Answers.{IsRefused, StatusSays}
use Rattle.san_serve.specs.Bounds.{model_bound}
use Rattle.san_serve.specs.Tasks.{TaskMeaning}
use Rattle.san_serve.specs.Written.{text_meaning, text_status}
use Rattle.san_text.specs.declared.text.Refusal.{Refusal}
use Rattle.san_words.specs.Commands.{IsTaken, batch_app}
use Rattle.san_words.specs.Hears.{BatchSay, HasSeeds, IsBatch, texts_of}
use Rattle.san_words.specs.declared.orders.BatchOrders.{BatchOrders}
use Rattle.san_batch.specs.Outcomes.{batch_of}
use Rattle.san_batch.specs.Texts.{batch_text}

-- the text for a network; the number of workers has no part in it
abbrev pub ordered_text : Network → BatchOrders → List ℕ
ordered_text n o = batch_text n (batch_of n o.limits o.seed o.runs)

-- a model text is accepted and its batch's text written, or it is refused
abbrev pub batch_meaning : BatchOrders → TaskMeaning
batch_meaning o = text_meaning accepted (λ n. ordered_text n o)

-- the one status that bytes come to, where no fault and no want of memory stands in the way
abbrev pub batch_status : List ℕ → Status
batch_status bytes = text_status accepted bytes

-- by the status: the words order a batch, which was made
abbrev pub Batches : List (List ℕ) → Status → Option (List ℕ) → Option (List ℕ) → Option (List ℕ) → Option (List ℕ) → Type 0
Batches words status.Words left rest old new = (IsBatch words → ⊥) × (rest ≡ left) × (new ≡ old)
Batches words status.NoMemory left rest old new = new ≡ old
Batches words s left rest old new = (o : BatchOrders) × IsTaken batch_app words × BatchSay (texts_of batch_app words) o × HasSeeds o × StatusSays (batch_meaning o) s left rest old new

-- what may be refused
abbrev pub BatchRefuses : List (List ℕ) → Option (List ℕ) → Option (List ℕ) → Refusal → Type 0
BatchRefuses words left rest refusal = IsBatch words × IsRefused model_bound IsRefusedText left rest refusal
