-- Flags, with a list of the numbers whose flags are up.
use Rattle.std.specs.Prelude.{ℕ, suc, ◌≡◌, Bool, true, false, List, [], ◌∷◌, length, take, Some, slice_get}

-- how many flags are up
abbrev pub many_up : List Bool → ℕ
many_up [] = 0
many_up (true ∷ fs) = suc (many_up fs)
many_up (false ∷ fs) = many_up fs

-- just the numbers whose flags are up, each once
pub record AreListed (list : List ℕ) (flags : List Bool) : Type 0 where
  pub up : (k i : ℕ) → slice_get list k ≡ Some i → slice_get flags i ≡ Some true
  pub each : (i : ℕ) → slice_get flags i ≡ Some true → (k : ℕ) × (slice_get list k ≡ Some i)
  pub once : (j k i : ℕ) → slice_get list j ≡ Some i → slice_get list k ≡ Some i → j ≡ k

-- they stand in front of a list that has room for all
pub record IsListed (flags : List Bool) (list : List ℕ) (count : ℕ) : Type 0 where
  pub room : length list ≡ length flags
  pub many : count ≡ many_up flags
  pub listed : AreListed (take count list) flags
