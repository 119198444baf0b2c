-- Flags as keys of a winner tree: one that is up has the key 0.
use Rattle.std.specs.Prelude.{ℕ, ◌≡◌, ◌≤◌, ◌<◌, Bool, true, false, List, [], ◌∷◌, length, Option, Some, None, slice_get}

abbrev pub is_up : Option ℕ → Bool
is_up None = false
is_up (Some key) = true

abbrev pub IsKey : Option ℕ → Type 0
IsKey None = Unit {0}
IsKey (Some key) = key ≡ 0

abbrev pub AreKeys : List (Option ℕ) → Type 0
AreKeys [] = Unit {0}
AreKeys (x ∷ xs) = IsKey x × AreKeys xs

-- the first that is up, from a number on
pub record IsNext (from : ℕ) (flags : List Bool) (at : ℕ) : Type 0 where
  pub low : from ≤ at
  pub within : at < length flags
  pub up : slice_get flags at ≡ Some true
  pub down : (i : ℕ) → from ≤ i → i < at → slice_get flags i ≡ Some false

abbrev pub SaysNext : ℕ → List Bool → Option ℕ → Type 0
SaysNext from flags None = (i : ℕ) → from ≤ i → i < length flags → slice_get flags i ≡ Some false
SaysNext from flags (Some at) = IsNext from flags at
