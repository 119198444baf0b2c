-- What one more read does to the bytes that were taken before.
use Rattle.std.specs.Prelude.{◌≡◌, ◌+◌, ◌-◌, ◌<◌, ◌≤◌, ℕ, List, length, Option}
use Rattle.san_base.specs.Flow.{IsUsedUp, Takes, TakesUpTo}
use Rattle.san_base.specs.declared.source.Turn.{Turn}
use Rattle.san_base.specs.declared.source.Turn.TheVariants as turn

-- with the bytes taken before from anything, these are taken from it
abbrev pub TakesTogether : Option (List ℕ) → Option (List ℕ) → List ℕ → List ℕ → Type 0
TakesTogether old new before now = (first : Option (List ℕ)) → Takes first old before → Takes first new now

-- what one more read does, by its answer, to what is left and to the bytes taken before
abbrev pub TakesMore : Turn → Option (List ℕ) → Option (List ℕ) → List ℕ → List ℕ → ℕ → Type 0
TakesMore turn.More old new before now most = (0 < length now - length before) × (length now ≤ length before + most) × TakesTogether old new before now
TakesMore turn.End old new before now most = IsUsedUp old × (new ≡ old) × (now ≡ before)
TakesMore turn.Failed old new before now most = (new ≡ old) × (now ≡ before)
TakesMore turn.NoMemory old new before now most = TakesUpTo old new most
