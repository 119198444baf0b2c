-- What is answered by what was heard of words.
use Rattle.std.specs.Prelude.{ℕ, ◌≡◌, List, Option, is_some, true}
use Rattle.san_base.specs.declared.status.Status.{Status}
use Rattle.san_base.specs.declared.status.Status.TheVariants as status
use Rattle.san_text.specs.declared.text.Refusal.{Refusal}
use Rattle.san_words.specs.declared.orders.Heard.{Heard}
use Rattle.san_words.specs.declared.orders.Heard.TheVariants as heard
use Rattle.san_cmd.specs.Runs.{RefusesFrom, RunsFrom}

abbrev pub HeardAnswers : Heard → Status → Option (List ℕ) → Option (List ℕ) → Option (List ℕ) → Option (List ℕ) → Type 0
HeardAnswers (heard.Run o) s left rest old new = RunsFrom o.make o s left rest old new × (s ≡ status.Words → ⊥)
HeardAnswers heard.Refused s left rest old new = (s ≡ status.Words) × (rest ≡ left) × (new ≡ old)
HeardAnswers heard.NoMemory s left rest old new = (s ≡ status.NoMemory) × (rest ≡ left) × (new ≡ old)

-- what may be refused
abbrev pub HeardRefuses : Heard → Option (List ℕ) → Option (List ℕ) → Refusal → Type 0
HeardRefuses (heard.Run o) left rest refusal = RefusesFrom o.make left rest refusal
HeardRefuses heard.Refused left rest refusal = ⊥
HeardRefuses heard.NoMemory left rest refusal = ⊥

-- nothing is to be read
abbrev pub IsUnread : Heard → Type 0
IsUnread (heard.Run o) = is_some o.make ≡ true
IsUnread heard.Refused = Unit {0}
IsUnread heard.NoMemory = Unit {0}
