-- What is answered by what was heard of words.
use Rattle.std.specs.Prelude.{ℕ, ◌≡◌, List, Option}
use Rattle.san_base.specs.declared.status.Status.{Status}
use Rattle.san_base.specs.declared.status.Status.TheVariants as status
use Rattle.san_serve.specs.Answers.{IsRefused, StatusSays}
use Rattle.san_serve.specs.Bounds.{model_bound}
use Rattle.san_text.specs.declared.text.Refusal.{Refusal}
use Rattle.san_words.specs.Hears.{HasSeeds}
use Rattle.san_words.specs.declared.orders.HeardFirst.{HeardFirst}
use Rattle.san_words.specs.declared.orders.HeardFirst.TheVariants as heard
use Rattle.san_passage.specs.Firsts.{first_meaning}

-- the runs that were heard have seeds
abbrev pub HaveSeeds : HeardFirst → Type 0
HaveSeeds (heard.First o) = HasSeeds o.batch
HaveSeeds heard.Refused = Unit {0}
HaveSeeds heard.NoMemory = Unit {0}

abbrev pub HeardAnswers : HeardFirst → Status → Option (List ℕ) → Option (List ℕ) → Option (List ℕ) → Option (List ℕ) → Type 0
HeardAnswers (heard.First o) s left rest old new = StatusSays (first_meaning o) s left rest old new × (s ≡ status.Words → ⊥)
HeardAnswers heard.Refused s left rest old new = (s ≡ status.Words) × (rest ≡ left) × (new ≡ old)
HeardAnswers heard.NoMemory s left rest old new = (s ≡ status.NoMemory) × (rest ≡ left) × (new ≡ old)

-- what may be refused
abbrev pub HeardRefuses : HeardFirst → Option (List ℕ) → Option (List ℕ) → Refusal → Type 0
HeardRefuses (heard.First o) left rest refusal = IsRefused model_bound (first_meaning o).refuses left rest refusal
HeardRefuses heard.Refused left rest refusal = ⊥
HeardRefuses heard.NoMemory left rest refusal = ⊥
