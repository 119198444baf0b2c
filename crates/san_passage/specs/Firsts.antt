-- What `sanfirst` answers: the passages that words order of the network that a text describes.
use Rattle.std.specs.Prelude.{ℕ, ◌≡◌, nat_le, nat_lt, if◌then◌else◌, Bool, List, length, slice_index, Option, Result, Ok, Err}
use Rattle.san_base.specs.declared.status.Status.{Status}
use Rattle.san_base.specs.declared.status.Status.TheVariants as status
use Rattle.san_net.specs.Network.{Network}
use Rattle.san_serve.specs.Accepted.{accepted}
use Rattle.san_serve.specs.Answers.{IsRefused, StatusSays}
use Rattle.san_serve.specs.Bounds.{model_bound}
use Rattle.san_serve.specs.Tasks.{TaskMeaning}
use Rattle.san_serve.specs.Written.{text_meaning, text_status}
use Rattle.san_text.specs.declared.text.Refusal.{Refusal}
use Rattle.san_words.specs.Commands.{IsTaken, first_app}
use Rattle.san_words.specs.Hears.{FirstSay, HasSeeds, IsFirst, texts_of}
use Rattle.san_words.specs.declared.orders.FirstOrders.{FirstOrders}
use Rattle.san_passage.specs.Texts.{passages_text}
use Rattle.san_passage.specs.Totals.{passages_of}
use Rattle.san_passage.specs.declared.codes.TheConstants.{NO_SUCH_PLACE}

-- in a marking a place has at least a value
abbrev pub has_at_least : ℕ → ℕ → List ℕ → Bool
has_at_least place least m = nat_le least (slice_index m place)

-- the text for a network; the number of workers has no part in it
abbrev pub first_text : Network → FirstOrders → List ℕ
first_text n o = passages_text o.batch.runs (passages_of n o.batch.limits (has_at_least o.place o.least) o.batch.seed o.batch.runs)

-- E56
abbrev pub no_such_place : Refusal
no_such_place = record { code = NO_SUCH_PLACE; line = 0; column = 0 }

-- a network that has a place of the number
abbrev pub with_place : ℕ → Result Network Refusal → Result Network Refusal
with_place place (Err refusal) = Err refusal
with_place place (Ok n) = if nat_lt place (length n.initial) then Ok n else Err no_such_place

-- the network of a text, or its refusal
abbrev pub accepted_at : ℕ → List ℕ → Result Network Refusal
accepted_at place text = with_place place (accepted text)

abbrev pub first_meaning : FirstOrders → TaskMeaning
first_meaning o = text_meaning (accepted_at o.place) (λ n. first_text n o)

-- the one status that bytes come to, where no fault and no want of memory stands in the way
abbrev pub first_status : FirstOrders → List ℕ → Status
first_status o bytes = text_status (accepted_at o.place) bytes

-- by the status: the words order passages, which were made
abbrev pub Firsts : List (List ℕ) → Status → Option (List ℕ) → Option (List ℕ) → Option (List ℕ) → Option (List ℕ) → Type 0
Firsts words status.Words left rest old new = (IsFirst words → ⊥) × (rest ≡ left) × (new ≡ old)
Firsts words status.NoMemory left rest old new = new ≡ old
Firsts words s left rest old new = (o : FirstOrders) × IsTaken first_app words × FirstSay (texts_of first_app words) o × HasSeeds o.batch × StatusSays (first_meaning o) s left rest old new

-- what may be refused
abbrev pub FirstRefuses : List (List ℕ) → Option (List ℕ) → Option (List ℕ) → Refusal → Type 0
FirstRefuses words left rest refusal = (o : FirstOrders) × IsTaken first_app words × FirstSay (texts_of first_app words) o × HasSeeds o.batch × IsRefused model_bound (λ text r. accepted_at o.place text ≡ Err r) left rest refusal
